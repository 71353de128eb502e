pub mod Claims
pub mod Counted
