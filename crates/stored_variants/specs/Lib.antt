pub mod RecordRows
pub mod CountedValues
pub mod StoredVersions
pub mod VersionsView
pub mod VersionsKept
pub mod SchemaSteps
pub mod PutRecords
