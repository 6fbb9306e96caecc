pub mod InOrder
pub mod Cutting
pub mod Gathering
