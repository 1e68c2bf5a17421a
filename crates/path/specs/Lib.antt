pub mod Meaning
pub mod Equal
pub mod Lawful
pub mod Printed
