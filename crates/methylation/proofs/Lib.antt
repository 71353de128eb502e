pub mod Choices
pub mod Arrays
pub mod Filling
