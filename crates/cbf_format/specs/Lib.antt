-- The file format, and what the calls on a file answer.
pub mod Text
pub mod Lines
pub mod Headers
pub mod Values
pub mod Descriptions
pub mod Base64
pub mod Base64Text
pub mod Sections
pub mod Files
pub mod Listing
pub mod Catalogue
pub mod House
pub mod SectionCalls
pub mod ListCalls
pub mod CatalogueCalls
pub mod ReplaceCalls
pub mod Reads
