pub mod Loggable
pub mod Replays
