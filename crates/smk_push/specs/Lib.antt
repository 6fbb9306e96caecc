pub mod Cubes
pub mod Inputs
