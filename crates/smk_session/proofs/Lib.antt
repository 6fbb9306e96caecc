mod BackAnswers
mod Brushed
mod Followers
mod InForce
mod KeptViews
mod Linked
mod Marked
pub mod Opened
mod Pairs
mod Refreshing
mod Rids
mod Selected
pub mod Shown
pub mod OpenedViews
pub mod KeptOf
pub mod Declared
pub mod Starts
mod AtOnce
mod Told
