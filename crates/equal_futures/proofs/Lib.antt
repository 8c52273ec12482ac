pub mod Futures
pub mod Gathering
pub mod Grouping
pub mod Growing
pub mod Numbered
pub mod Prelude
pub mod RowLists
pub mod Settling
