pub mod Unfolds
pub mod Distinct
pub mod Nesting
pub mod Laws
pub mod Rereads
pub mod Stops
pub mod Locations
pub mod Quiet
