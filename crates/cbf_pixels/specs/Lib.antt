pub mod Octets
pub mod Pixels
pub mod Uncompressed
pub mod PixelCalls
pub mod Numbers
