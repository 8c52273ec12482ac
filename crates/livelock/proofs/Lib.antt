pub mod Agreeing
pub mod Deciding
pub mod Prelude
pub mod Whole
