pub mod Stands
pub mod Store
pub mod Runs
