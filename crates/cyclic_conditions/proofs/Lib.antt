pub mod LapPlaces
pub mod Noting
pub mod Prelude
pub mod Shortness
