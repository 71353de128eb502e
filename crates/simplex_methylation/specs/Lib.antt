pub mod Simplex
