pub mod Exact
pub mod Members
pub mod Shown
pub mod formers
