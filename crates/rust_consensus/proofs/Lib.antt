pub mod Annotations
pub mod Lengths
pub mod ReadBack
