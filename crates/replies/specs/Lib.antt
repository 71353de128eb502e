pub mod Choices
pub mod ReadBack
pub mod Replies
pub mod NumbersBack
