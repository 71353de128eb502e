pub mod Cut
pub mod Read
