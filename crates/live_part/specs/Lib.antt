pub mod LiveBytes
pub mod LiveReading
pub mod Read
pub mod Computing
pub mod Samples
pub mod Written
