pub mod ReadBack
pub mod Reply
pub mod Strand
