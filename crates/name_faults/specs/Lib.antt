pub mod Prelude
pub mod Walked
pub mod Bodies
pub mod Depths
pub mod Known
