pub mod Held
pub mod Moves
pub mod Parts
pub mod Rule
