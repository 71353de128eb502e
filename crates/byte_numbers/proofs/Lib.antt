pub mod Bytes
pub mod Groups
