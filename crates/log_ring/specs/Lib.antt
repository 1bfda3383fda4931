pub mod Blocks
pub mod Gates
pub mod Ready
pub mod Appends
pub mod Writes
pub mod Ring
