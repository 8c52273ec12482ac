pub mod Named
pub mod Bounded
pub mod Whole
pub mod Complete
pub mod Stopping
