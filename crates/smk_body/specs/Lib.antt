pub mod Parts
pub mod Cuts
pub mod Halves
pub mod Bounds
pub mod Made
pub mod Locals
pub mod Renumbered
pub mod Rises
