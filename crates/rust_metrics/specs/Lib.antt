pub mod Answers
pub mod ReadBack
