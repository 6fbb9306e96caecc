pub mod Columns
pub mod FitRows
pub mod Joining
pub mod Levels
pub mod Running
