pub mod Annotated
pub mod Tests
