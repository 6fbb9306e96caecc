pub mod Keyed
pub mod Partnered
pub mod Single
