pub mod ShownStates
pub mod InTurn
pub mod GivenBack
pub mod ShowableEngines
pub mod Settled
pub mod SoundStates
