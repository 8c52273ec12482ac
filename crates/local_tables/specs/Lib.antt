pub mod Component
pub mod Faults
pub mod Laws
pub mod LocalTable
pub mod Prelude
pub mod Progress
pub mod Room
