pub mod Holdings
pub mod Uses
