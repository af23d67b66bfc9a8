-- The laws of the definitions in specs/.
pub mod Slices
pub mod LineTame
pub mod Base64Laws
pub mod SectionTame
pub mod SectionLaws
pub mod FileLaws
pub mod Examples
pub mod ListingLaws
pub mod PlaceLaws
pub mod VerdictLaws
pub mod OctetLaws
pub mod DecimalLaws
pub mod HeaderLaws
pub mod HouseLaws
pub mod HouseSections
pub mod ReplacementLaws
