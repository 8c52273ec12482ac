pub mod PrintedScript
pub mod PrintedTree
pub mod TokenText
