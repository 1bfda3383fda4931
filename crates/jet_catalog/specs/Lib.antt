pub mod Catalog
pub mod Decisions
