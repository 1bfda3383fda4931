pub mod Computing
pub mod DumpTexts
pub mod LogSteps
pub mod Samples
pub mod SoundTrees
pub mod SpaceTexts
pub mod Walked
