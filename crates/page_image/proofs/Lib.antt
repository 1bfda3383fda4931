mod ByteNodes
pub mod Fronts
pub mod Keys
pub mod Kept
pub mod Nodes
pub mod Spelled
pub mod Words
