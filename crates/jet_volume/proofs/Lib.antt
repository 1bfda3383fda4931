pub mod Bytes
pub mod FileLemmas
pub mod Calls
pub mod Outcomes
