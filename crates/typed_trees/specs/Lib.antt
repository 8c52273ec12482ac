pub mod Prelude
pub mod Walked
pub mod Words
