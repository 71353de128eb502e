pub mod Entry
pub mod ReadBack
