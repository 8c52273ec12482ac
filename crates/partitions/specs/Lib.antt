pub mod BlockSteps
pub mod Blocks
