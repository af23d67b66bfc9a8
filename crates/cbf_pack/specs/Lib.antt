pub mod Write
pub mod Dense
