pub mod Refusals
pub mod Cells
pub mod Lent
pub mod Laws
pub mod Hex
pub mod Captured
pub mod Changed
