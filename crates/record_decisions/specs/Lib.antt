pub mod Changing
pub mod EscrowUpdates
pub mod Updating
pub mod Preparing
