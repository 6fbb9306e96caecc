pub mod Marked
pub mod Briefs
