pub mod Prelude
pub mod SilentWalks
