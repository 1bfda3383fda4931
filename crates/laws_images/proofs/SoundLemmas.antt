pub mod Sessions
pub mod Catalogs
