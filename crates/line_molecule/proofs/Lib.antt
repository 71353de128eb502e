pub mod Parts
pub mod Thresholds
pub mod Text
