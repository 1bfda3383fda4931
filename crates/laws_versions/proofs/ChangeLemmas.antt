pub mod Tests
pub mod Sums
pub mod Commuting
pub mod Projecting
pub mod Folds
