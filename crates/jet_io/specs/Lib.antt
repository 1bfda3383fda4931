pub mod Faults
pub mod Schedule
pub mod Memory
pub mod System
