-- That the tables of a consistent image are those of a store.
pub mod Lookups
pub mod EntriesEqual
pub mod IndexRules
pub mod IndexNodes
pub mod TreeNodes
pub mod Counts
pub mod KeptRows
pub mod KeptChanges
pub mod KeptTables
pub mod Consistent
pub mod Stored
