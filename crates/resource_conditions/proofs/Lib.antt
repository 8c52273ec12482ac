pub mod Holding
pub mod Joining
pub mod Prelude
pub mod Sets
