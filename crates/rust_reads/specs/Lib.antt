pub mod ReadBack
pub mod Replies
