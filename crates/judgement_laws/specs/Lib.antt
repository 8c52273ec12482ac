pub mod Classes
pub mod Complete
pub mod Flat
pub mod Lasting
pub mod Laws
pub mod Ranked
