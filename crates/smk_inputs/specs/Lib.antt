pub mod Image
pub mod LineLimits
pub mod WordsTaken
pub mod Added
pub mod Loaded
pub mod Collecting
