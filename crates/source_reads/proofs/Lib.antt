pub mod Adding
pub mod Counted
