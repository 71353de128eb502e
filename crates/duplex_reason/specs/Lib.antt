pub mod Reason
pub mod Record
pub mod Absent
