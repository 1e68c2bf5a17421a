pub mod Below
pub mod Opens
