pub mod Absent
pub mod Lent
pub mod Padding
