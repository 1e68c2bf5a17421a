pub mod Faults
pub mod Placers
pub mod Frames
pub mod Turns
pub mod Quieted
pub mod Walks
