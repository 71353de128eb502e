pub mod Absent
pub mod Examples
pub mod Kind
pub mod Limit
pub mod Blocks
