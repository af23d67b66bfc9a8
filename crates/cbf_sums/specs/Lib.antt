pub mod Summing
pub mod Mixed
pub mod Passes
pub mod Near
pub mod Far
