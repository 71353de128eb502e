pub mod HonestRates
pub mod Text
