pub mod Consensus
