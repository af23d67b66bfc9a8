pub mod EntryLaws
pub mod EntriesLaws
pub mod WriteCatalogueLaws
