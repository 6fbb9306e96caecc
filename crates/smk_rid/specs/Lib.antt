pub mod Maps
pub mod Packing
pub mod Forms
pub mod Storage
pub mod Fill
pub mod Grow
