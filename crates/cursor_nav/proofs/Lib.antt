pub mod Arriving
pub mod Counting
pub mod Cutting
pub mod InOrder
pub mod Listing
pub mod PairOrder
pub mod Seeking
