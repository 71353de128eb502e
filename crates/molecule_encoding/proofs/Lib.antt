pub mod Order
pub mod Values
pub mod Accepted
pub mod Claims
pub mod Parts
pub mod Examples
pub mod Places
