pub mod Computed
pub mod Effect
pub mod Evaluated
pub mod ExactStep
pub mod Listed
pub mod Order
pub mod Prelude
pub mod Walked
