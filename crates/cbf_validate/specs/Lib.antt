pub mod Validate
pub mod Turn
