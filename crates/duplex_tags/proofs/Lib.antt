pub mod Counts
pub mod Refused
pub mod Most
pub mod Absent
