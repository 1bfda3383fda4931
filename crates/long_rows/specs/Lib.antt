pub mod WholeRows
pub mod KeptRows
pub mod RowsInUse
pub mod Samples
pub mod RowReferences
pub mod ReferenceCounts
pub mod ReferenceSamples
