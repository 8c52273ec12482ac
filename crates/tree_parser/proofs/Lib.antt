pub mod Counted
pub mod Depths
pub mod ListSteps
pub mod Prelude
pub mod SoFar
