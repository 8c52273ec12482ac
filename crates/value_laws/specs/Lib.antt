pub mod Bindings
pub mod EnoughUses
pub mod EventNumbers
pub mod Numbers
pub mod Prelude
pub mod ProgramEvents
pub mod ValuesInOrder
