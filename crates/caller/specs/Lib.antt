pub mod Name
pub mod Rate
pub mod Short
