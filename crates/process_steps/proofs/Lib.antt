pub mod Chains
pub mod Complete
pub mod Depths
pub mod Fillings
pub mod Listed
pub mod Members
pub mod Prelude
pub mod Sound
