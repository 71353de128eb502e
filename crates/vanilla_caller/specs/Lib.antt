pub mod Depth
pub mod Strand
