pub mod Bytes
pub mod HeldLemmas
pub mod HeldSteps
pub mod LayoutLemmas
