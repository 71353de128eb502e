pub mod Strands
