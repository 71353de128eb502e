pub mod Calls
pub mod Conditions
pub mod Entries
pub mod Quality
pub mod Reasons
