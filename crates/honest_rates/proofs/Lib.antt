pub mod Text
pub mod Line
pub mod Bytes
pub mod HonestRates
