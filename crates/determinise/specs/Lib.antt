pub mod Determinised
pub mod ManySets
pub mod Progress
pub mod Known
