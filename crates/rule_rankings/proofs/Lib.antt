pub mod ClientServerRanking
pub mod CyclicRanking
pub mod Prelude
pub mod ResourceRanking
pub mod RowsBelow
