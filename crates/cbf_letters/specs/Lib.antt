pub mod Letters
pub mod Octets
