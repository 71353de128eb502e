pub mod Entries
pub mod Reasons
