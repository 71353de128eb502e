pub mod Replied
pub mod NumbersBack
