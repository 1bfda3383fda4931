pub mod Bytes
pub mod PairOrder
pub mod Lists
pub mod Cutting
pub mod NodeEntries
pub mod Changing
pub mod Beside
