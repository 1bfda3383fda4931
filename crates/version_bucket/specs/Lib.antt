pub mod Held
pub mod Layout
pub mod Memory
pub mod Pieces
