pub mod Filters
pub mod Stretches
pub mod Orders
pub mod Valued
pub mod Members
