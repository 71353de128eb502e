pub mod Dna
