pub mod Member
pub mod Prelude
pub mod RowLists
pub mod SmallestSets
pub mod Sorting
pub mod Terms
