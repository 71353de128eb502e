pub mod ReadBack
pub mod Reply
