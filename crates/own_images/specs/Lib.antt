pub mod OwnStores
pub mod OwnContents
pub mod OwnEngines
pub mod StoredContents
