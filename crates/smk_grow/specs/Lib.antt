pub mod Grown
pub mod Images
pub mod Renewals
pub mod Renewed
pub mod Told
