pub mod Reaches
pub mod Evaluated
pub mod Fars
