pub mod Combine
pub mod Absent
