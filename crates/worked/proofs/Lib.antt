pub mod Layings
pub mod Puttings
pub mod Listings
