pub mod Counts
pub mod Gating
