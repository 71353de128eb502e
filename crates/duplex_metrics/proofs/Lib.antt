pub mod Depths
pub mod Few
pub mod Given
pub mod Returned
pub mod SoFar
