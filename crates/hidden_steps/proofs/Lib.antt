pub mod Agreeing
pub mod Bounding
pub mod Counting
pub mod Moves
pub mod Own
pub mod Prelude
