pub mod Entries
pub mod IndexTrees
