mod Prelude
pub mod Rolls
pub mod SameTokens
pub mod Takes
pub mod ExprForms
pub mod ProcForms
pub mod NetForms
pub mod OtherForms
pub mod Scopes
