pub mod InOrder
pub mod KeyOrder
pub mod Reading
pub mod Sets
pub mod Turns
pub mod Walking
