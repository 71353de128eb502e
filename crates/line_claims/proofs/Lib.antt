pub mod Places
pub mod Texts
pub mod Report
pub mod Molecule
pub mod Refuses
pub mod Counted
