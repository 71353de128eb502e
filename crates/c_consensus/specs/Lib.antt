pub mod Consensus
pub mod Parts
