pub mod Shows
pub mod Crashes
pub mod Ways
pub mod Opens
