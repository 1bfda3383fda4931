pub mod KeptNodes
pub mod MarkedPages
pub mod OpenedCatalogs
pub mod OpenedTrees
pub mod ReadNodes
pub mod WalkedTrees
