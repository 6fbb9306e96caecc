pub mod Classes
pub mod Joined
pub mod Keys
pub mod Numbers
pub mod Orders
