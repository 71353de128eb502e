pub mod Buffers
pub mod Evidence
