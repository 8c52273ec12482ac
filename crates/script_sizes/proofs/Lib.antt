pub mod Prelude
pub mod TokenForms
