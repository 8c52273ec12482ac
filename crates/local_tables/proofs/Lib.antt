pub mod Ending
pub mod Excluding
pub mod Following
pub mod Prelude
pub mod Rows
pub mod Walking
