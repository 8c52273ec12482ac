pub mod Exact
pub mod Merge
pub mod Order
pub mod Prelude
pub mod Search
pub mod Sets
