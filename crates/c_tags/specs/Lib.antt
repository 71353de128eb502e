pub mod Tags
pub mod Parts
