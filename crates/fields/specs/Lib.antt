pub mod Encoding
pub mod Slices
