pub mod Splits
pub mod Parts
