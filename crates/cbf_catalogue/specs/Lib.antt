pub mod Entry
pub mod Entries
pub mod WriteCatalogue
