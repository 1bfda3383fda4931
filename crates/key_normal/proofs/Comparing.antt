-- Why keys that are not cut compare as what they stand for.
pub mod Aligned
pub mod Groups
pub mod Numbers
pub mod Segments
pub mod Keys
