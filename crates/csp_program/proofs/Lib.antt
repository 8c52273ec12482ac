pub mod Forms
pub mod Loops
pub mod Outcomes
pub mod UsesWithin
