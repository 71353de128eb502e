pub mod Example
pub mod Line
