pub mod Counts
pub mod OneRead
pub mod Running
