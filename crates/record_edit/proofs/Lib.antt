pub mod Stored
pub mod Widths
