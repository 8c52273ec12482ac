mod Classes
pub mod Complete
mod Flat
pub mod Networks
pub mod Prelude
pub mod Tables
pub mod Whole
