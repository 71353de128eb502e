pub mod Annotation
pub mod Arrays
pub mod Choices
pub mod Methylation
pub mod Outputs
