pub mod Text
pub mod Digits
pub mod Fills
pub mod Sinks
pub mod Laws
