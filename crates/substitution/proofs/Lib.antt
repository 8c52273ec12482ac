pub mod Forms
pub mod Keeps
pub mod Loops
pub mod Loses
pub mod NamesFound
pub mod Prelude
pub mod Stays
pub mod Worth
