pub mod Alterations
pub mod Changes
pub mod Neighbors
pub mod Order
pub mod Shape
pub mod Trees
pub mod ExchangeLaws
