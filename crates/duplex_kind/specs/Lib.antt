pub mod Kind
pub mod Absent
pub mod Limit
