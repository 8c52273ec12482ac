pub mod Prelude
pub mod Sources
pub mod Found
