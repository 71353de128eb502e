pub mod Rates
pub mod ReadBack
