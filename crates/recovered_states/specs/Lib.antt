pub mod Recovers
pub mod Samples
