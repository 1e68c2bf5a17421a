pub mod Naming
pub mod Finds
pub mod Lays
pub mod Keeps
pub mod Puts
pub mod Settling
pub mod Runs
pub mod Once
