pub mod KeyBytes
pub mod KeyOrder
pub mod KeySoFar
pub mod Spelling
