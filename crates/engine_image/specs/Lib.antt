pub mod FoundFaults
pub mod OpenedImages
pub mod Checks
pub mod MadeTables
pub mod MadeEngines
