pub mod GoneKeys
pub mod GoneRecords
pub mod PutStages
pub mod UndoneChanges
pub mod LeftVariants
pub mod NewEntries
pub mod LostColumns
