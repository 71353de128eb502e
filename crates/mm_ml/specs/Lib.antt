pub mod Text
pub mod Tags
