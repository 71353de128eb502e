pub mod Single
pub mod Absent
