pub mod Children
pub mod Keeping
pub mod Sizes
