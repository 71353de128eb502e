pub mod Count
pub mod Every
pub mod Indices
pub mod Output
pub mod Part
pub mod Table
