pub mod Complete
pub mod InOrder
pub mod JointLemmas
pub mod Prelude
pub mod Sound
pub mod Values
