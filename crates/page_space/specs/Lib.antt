pub mod Frames
pub mod Free
pub mod Held
pub mod Lending
