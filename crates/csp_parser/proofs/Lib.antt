pub mod Assertions
pub mod DeclarationSteps
pub mod Prelude
pub mod ScriptSizes
pub mod Scripts
pub mod TokenCounts
pub mod TreeTokens
