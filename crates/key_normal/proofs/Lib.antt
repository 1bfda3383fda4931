pub mod Groups
pub mod Making
pub mod Comparing
