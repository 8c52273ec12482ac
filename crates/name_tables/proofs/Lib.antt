mod Prelude
pub mod NameLemmas
pub mod SpellingLemmas
pub mod ScopeLemmas
pub mod DeclaredLemmas
pub mod SizeLaws
