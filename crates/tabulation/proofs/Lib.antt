pub mod Prelude
pub mod Status
