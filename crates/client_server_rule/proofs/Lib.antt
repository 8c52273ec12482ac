pub mod Prelude
pub mod Serving
