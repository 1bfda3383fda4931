pub mod OneTable
pub mod OneColumn
