pub mod Kind
pub mod Strand
