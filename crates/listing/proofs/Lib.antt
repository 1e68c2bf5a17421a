pub mod Shares
pub mod Wholes
pub mod Lengths
pub mod LaidLengths
