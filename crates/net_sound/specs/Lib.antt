pub mod Example
pub mod Flattening
pub mod Heart
pub mod Heights
pub mod NoneStuck
pub mod Normal
pub mod Projection
pub mod Soundness
