pub mod Lent
pub mod Outputs
