pub mod CatalogBytes
pub mod CatalogReading
pub mod Catalogs
pub mod Samples
pub mod CatalogParts
pub mod CatalogSteps
pub mod StepSamples
