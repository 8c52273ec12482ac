pub mod Course
pub mod Scopes
pub mod Stays
pub mod Worth
