pub mod Answers
pub mod Images
pub mod Turns
pub mod Keys
pub mod Drafts
pub mod Rest
pub mod Steps
