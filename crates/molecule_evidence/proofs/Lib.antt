pub mod Evidence
pub mod Kept
