pub mod Arrows
pub mod Future
pub mod Renumbered
pub mod Splits
