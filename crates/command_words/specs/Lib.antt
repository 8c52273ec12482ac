pub mod Named
pub mod Numerals
pub mod Prelude
pub mod Request
