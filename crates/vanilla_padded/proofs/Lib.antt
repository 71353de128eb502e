pub mod Absent
pub mod Padding
pub mod Room
