pub mod Order
pub mod Bounded
pub mod Agreeing
