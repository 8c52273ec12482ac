pub mod Acquired
pub mod Component
pub mod Links
pub mod OddLinks
pub mod Setting
pub mod Turned
