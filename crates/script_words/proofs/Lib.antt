pub mod Cuts
pub mod WordCounts
pub mod Decimal
pub mod HexPairs
pub mod Forms
