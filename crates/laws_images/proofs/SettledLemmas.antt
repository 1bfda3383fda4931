pub mod Filters
pub mod Steps
pub mod LawfulEntries
pub mod SettledHistories
pub mod HeldStates
pub mod AlikeStates
