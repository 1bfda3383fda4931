pub mod Contents
pub mod Found
pub mod Opening
pub mod Parts
pub mod Shape
pub mod Steps
