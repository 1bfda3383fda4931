pub mod Ids
pub mod JetName
pub mod ColumnType
pub mod Given
pub mod TypeKinds
pub mod SmallBytes
pub mod ByteHash
