pub mod Counting
pub mod Exploring
pub mod Groups
pub mod KnownSets
pub mod MoreSets
pub mod NodeSteps
pub mod Prelude
pub mod Runs
