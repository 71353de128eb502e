pub mod Parts
pub mod Record
pub mod Absent
