-- What the program prints.
pub mod Texts
