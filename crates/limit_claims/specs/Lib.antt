pub mod Arrays
pub mod Same
pub mod Over
pub mod Worked
