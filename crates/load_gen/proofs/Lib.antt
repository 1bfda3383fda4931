pub mod Built
pub mod Counts
pub mod Divisions
pub mod Lengths
pub mod Opening
pub mod Pieces
pub mod RecordCalls
pub mod Walks
