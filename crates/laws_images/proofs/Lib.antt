pub mod OpenedLemmas
pub mod SettledLemmas
pub mod SoundLemmas
