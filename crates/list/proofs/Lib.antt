pub mod Finds
pub mod Fronts
