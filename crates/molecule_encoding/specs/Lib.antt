pub mod Claims
pub mod Format
pub mod Parts
pub mod Small
pub mod Places
