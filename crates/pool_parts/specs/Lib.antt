pub mod Counting
pub mod ExactId
pub mod Low
pub mod Prelude
pub mod Stored
