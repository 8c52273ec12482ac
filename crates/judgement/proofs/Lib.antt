mod Broken
mod Counting
mod Heart
pub mod KindsUnique
mod Living
pub mod Notes
pub mod OneNetwork
pub mod Prelude
