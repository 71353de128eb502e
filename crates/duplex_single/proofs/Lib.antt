pub mod Absent
pub mod Gated
pub mod Room
