pub mod Ample
pub mod Bytes
pub mod Few
pub mod Made
