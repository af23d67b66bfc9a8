pub mod Difference
pub mod Plain
pub mod Rest
