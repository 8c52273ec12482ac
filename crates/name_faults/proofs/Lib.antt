mod Prelude
pub mod Says
pub mod Lists
pub mod Deepest
pub mod First
pub mod BodyLemmas
pub mod DepthLemmas
pub mod KnownLemmas
pub mod Small
