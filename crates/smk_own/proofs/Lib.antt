pub mod OwnReads
pub mod Parts
pub mod Selects
pub mod Tallies
pub mod Unlisted
