pub mod Facts
pub mod Laps
pub mod Orders
pub mod Shorts
pub mod Told
