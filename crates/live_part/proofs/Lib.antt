pub mod SessionLaws
pub mod HeldLaws
pub mod WholeLaws
pub mod ReadLoops
pub mod WriteLoops
pub mod ReadParts
