pub mod Fits
pub mod Texts
pub mod Refused
pub mod Made
pub mod Most
pub mod Absent
