pub mod Examples
pub mod Held
pub mod RowBytes
pub mod TempColumns
pub mod TempRows
