pub mod ReadBack
pub mod Strand
