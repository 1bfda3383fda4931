pub mod StoredRecord
pub mod StoredSums
pub mod UndoneSums
pub mod UnhinderedSums
pub mod Puts
pub mod VeryRecords
