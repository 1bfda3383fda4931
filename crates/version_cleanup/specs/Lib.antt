pub mod Cleaning
pub mod LiveFields
pub mod LiveSessions
pub mod Samples
pub mod Shown
pub mod NeededLaws
pub mod SessionLaws
