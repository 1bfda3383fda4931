pub mod EntryBytes
pub mod EntryReading
pub mod EntryStreams
pub mod Samples
