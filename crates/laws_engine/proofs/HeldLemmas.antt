pub mod UncopiedSteps
pub mod HeldIndexes
pub mod HeldPast
pub mod HeldStates
pub mod PlainSteps
pub mod EquivalentRuns
pub mod LinesAlike
