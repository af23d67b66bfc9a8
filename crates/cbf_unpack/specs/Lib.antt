pub mod Fill
pub mod Uncompressed
