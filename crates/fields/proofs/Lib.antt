pub mod Fields
pub mod Walk
