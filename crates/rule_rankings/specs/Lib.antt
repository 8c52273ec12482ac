pub mod ClientServerRanks
pub mod CyclicRanks
pub mod ResourceRanks
pub mod Rows
