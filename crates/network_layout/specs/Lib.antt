pub mod Lays
pub mod Told
pub mod Triple
