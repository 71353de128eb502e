pub mod Metrics
pub mod Running
