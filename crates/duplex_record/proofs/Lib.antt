pub mod Record
pub mod Unannotated
pub mod Untouched
pub mod Absent
