pub mod Entries
pub mod ReadBack
