pub mod Kept
pub mod Leaves
