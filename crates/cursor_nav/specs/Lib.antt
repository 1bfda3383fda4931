pub mod Places
pub mod Navigation
pub mod MakingKeys
pub mod CursorView
pub mod Steps
