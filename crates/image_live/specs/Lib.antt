pub mod FoundKeys
pub mod KeptRows
pub mod KeySpans
pub mod LoadedParts
pub mod Orders
pub mod SpanOrder
pub mod TablesRead
