pub mod LogState
pub mod StreamLaws
