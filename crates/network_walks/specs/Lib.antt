pub mod Draws
pub mod Laws
pub mod Moves
pub mod Tabled
pub mod Walked
