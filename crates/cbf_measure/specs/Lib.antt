pub mod Window
pub mod Measure
pub mod Range
