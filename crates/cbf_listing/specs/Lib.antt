pub mod SectionLine
pub mod Lines
