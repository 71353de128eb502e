pub mod Parts
pub mod Reason
