pub mod Fetched
pub mod Walk
pub mod KeptMaps
pub mod Through
pub mod Passing
