pub mod Headers
pub mod Found
pub mod Describe
pub mod HeaderParts
pub mod Judge
pub mod SectionHeaders
