-- The laws of the definitions in specs/.
pub mod Tame
pub mod Good
pub mod Sections
pub mod Choices
pub mod ParserLaws
pub mod ReadingLaws
pub mod PlaceLaws
pub mod SectionLaws
pub mod ChoiceLaws
