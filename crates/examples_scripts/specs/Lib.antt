pub mod OrdinaryRun
pub mod Rows
