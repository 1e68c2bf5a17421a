pub mod Refusals
pub mod States
pub mod Outcomes
pub mod Lays
pub mod Steps
pub mod Puts
pub mod Calls
pub mod Law
