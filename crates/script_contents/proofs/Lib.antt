mod Prelude
pub mod BodyLaws
pub mod ContentLaws
pub mod SizeLaws
