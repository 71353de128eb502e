pub mod Counts
pub mod Gate
pub mod Truncate
