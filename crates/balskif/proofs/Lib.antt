pub mod Bytes
pub mod Inside
pub mod Reading
pub mod Changes
pub mod Refusing
pub mod Texts
