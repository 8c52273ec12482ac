pub mod Taking
pub mod Found
pub mod Own
pub mod Exact
pub mod Standings
pub mod Scopes
pub mod Sums
pub mod Prelude
