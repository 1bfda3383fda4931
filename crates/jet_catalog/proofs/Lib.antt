pub mod Passed
pub mod RisingIds
pub mod IndexLists
pub mod Answered
pub mod WithoutRows
pub mod Composed
pub mod NextNumbers
pub mod ColumnPlaces
