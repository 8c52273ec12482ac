pub mod Finding
pub mod Growing
pub mod Keeping
pub mod Leading
pub mod Marking
pub mod Prelude
pub mod Runs
