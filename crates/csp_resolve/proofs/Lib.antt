mod Prelude
pub mod SetsLaws
pub mod AnswerLaws
pub mod ResolvedLaws
pub mod Few
