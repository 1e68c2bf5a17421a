pub mod Reached
pub mod Finding
pub mod Measures
pub mod Places
pub mod Fars
