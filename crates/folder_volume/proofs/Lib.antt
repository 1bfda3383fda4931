pub mod Failures
pub mod OpenFiles
pub mod Pieces
pub mod Changes
