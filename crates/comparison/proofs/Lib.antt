pub mod Components
pub mod Lists
pub mod Matching
pub mod Naming
pub mod Prelude
pub mod Walk
