pub mod ReadBack
pub mod Lent
