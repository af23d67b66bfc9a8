pub mod ListingLaws
pub mod SectionLineLaws
pub mod LinesLaws
