pub mod Image
pub mod Crash
pub mod TornLaws
pub mod Moments
pub mod Record
pub mod RecordLaws
pub mod Covers
pub mod Memory
