pub mod Computing
pub mod Records
pub mod Script
pub mod Summary
pub mod Table
