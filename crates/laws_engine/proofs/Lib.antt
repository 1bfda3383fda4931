pub mod AgreeingLemmas
pub mod EngineLemmas
pub mod EquivalentLemmas
pub mod HeldLemmas
pub mod LawfulLemmas
pub mod TableLemmas
