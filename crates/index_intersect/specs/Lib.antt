pub mod Intersection
pub mod CursorRanges
pub mod Walks
pub mod Examples
