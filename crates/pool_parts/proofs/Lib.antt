pub mod LowLemmas
pub mod Prelude
pub mod StoreLemmas
