pub mod Walks
pub mod KeyConflicts
pub mod SeenRows
pub mod Shown
