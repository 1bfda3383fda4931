pub mod Spelled
pub mod PageSpellings
pub mod Once
pub mod Alike
pub mod Fronts
pub mod Reaching
