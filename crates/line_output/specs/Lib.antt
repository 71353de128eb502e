pub mod Text
pub mod Writer
