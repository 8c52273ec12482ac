pub mod Depth
pub mod Parts
pub mod Prelude
pub mod Written
