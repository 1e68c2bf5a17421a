pub mod Layers
pub mod Swaps
pub mod Joins
