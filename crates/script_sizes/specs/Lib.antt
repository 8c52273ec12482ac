pub mod BindingTokens
pub mod Size
