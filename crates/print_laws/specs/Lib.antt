pub mod Fits
pub mod Laws
pub mod Lines
pub mod Made
