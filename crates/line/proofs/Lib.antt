pub mod Decimal
pub mod Numerals
pub mod Pieces
