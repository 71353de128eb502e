pub mod Positions
pub mod Short
