pub mod Laws
pub mod Prints
pub mod Parses
pub mod Spelling
pub mod Reached
