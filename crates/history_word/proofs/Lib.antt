pub mod Keeps
pub mod Logs
