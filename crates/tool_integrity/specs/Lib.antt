pub mod Computing
pub mod IntegrityLines
