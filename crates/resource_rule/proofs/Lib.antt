pub mod Adding
pub mod Holding
pub mod InTurn
pub mod Offering
pub mod Prelude
pub mod Using
