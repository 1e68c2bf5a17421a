pub mod Nths
pub mod Meanings
pub mod Lents
pub mod Captures
pub mod Faults
pub mod Tells
pub mod Changes
