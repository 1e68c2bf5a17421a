pub mod Calls
pub mod Sheets
pub mod Puts
