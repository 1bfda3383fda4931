pub mod EntryParsed
pub mod EntrySeen
pub mod EntrySizes
pub mod EntryCuts
pub mod Passing
