pub mod Walk
pub mod Strand
pub mod Group
pub mod Refused
