pub mod Cut
pub mod Examples
pub mod Gate
pub mod Largest
