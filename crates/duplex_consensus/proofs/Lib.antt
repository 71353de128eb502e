pub mod Counting
pub mod Made
pub mod Replied
