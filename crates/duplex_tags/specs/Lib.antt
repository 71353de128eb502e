pub mod Lent
pub mod Tags
pub mod Outputs
pub mod Absent
pub mod Parts
