pub mod Oldest
pub mod OpenTables
pub mod Places
pub mod Rising
