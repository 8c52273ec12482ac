pub mod Chaining
pub mod Prelude
