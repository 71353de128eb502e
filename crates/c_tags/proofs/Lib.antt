pub mod Bytes
pub mod Entry
