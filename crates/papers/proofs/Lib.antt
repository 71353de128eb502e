pub mod Decimal
pub mod Ml
pub mod Papers
pub mod Quality
