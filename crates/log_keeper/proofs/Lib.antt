pub mod Parts
pub mod Giving
pub mod Blocks
pub mod Rooms
