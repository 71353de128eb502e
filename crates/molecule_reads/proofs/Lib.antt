pub mod Run
pub mod Counting
pub mod Walk
pub mod Claims
pub mod Next
