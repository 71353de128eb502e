pub mod Misreadings
