pub mod Buffer
pub mod SetColumn
pub mod Faults
pub mod NewValues
pub mod Effects
