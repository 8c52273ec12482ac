pub mod EventSteps
pub mod Faults
pub mod GrowingLaws
pub mod Held
pub mod NameLaws
pub mod Prelude
pub mod SetSteps
