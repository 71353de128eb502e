pub mod Phred
