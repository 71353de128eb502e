pub mod Lent
pub mod Texts
pub mod Outputs
pub mod Absent
pub mod Parts
