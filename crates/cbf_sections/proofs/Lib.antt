-- The laws of the definitions in specs/.
pub mod SectionCallsLaws
pub mod EnoughRoom
