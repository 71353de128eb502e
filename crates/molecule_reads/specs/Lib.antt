pub mod Claims
pub mod Run
