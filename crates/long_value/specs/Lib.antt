pub mod Values
pub mod Stores
pub mod Shown
pub mod ChangedValues
