pub mod Enough
pub mod Exploration
pub mod Marks
pub mod Observed
pub mod Observers
pub mod Prelude
pub mod Progress
