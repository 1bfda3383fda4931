pub mod EngineImages
pub mod LighterStates
pub mod ReadBack
pub mod RoomSamples
