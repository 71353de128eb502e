pub mod Absent
pub mod Room
