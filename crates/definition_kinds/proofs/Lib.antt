mod Prelude
pub mod LeadingLaws
pub mod SourceLaws
pub mod ArcLaws
pub mod FoundLaws
pub mod SizeLaws
