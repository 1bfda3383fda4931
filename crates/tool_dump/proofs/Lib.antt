pub mod Heads
pub mod Joining
pub mod LogReading
pub mod Telling
pub mod Walking
