pub mod Samples
pub mod States
pub mod Runs
pub mod Forgetting
