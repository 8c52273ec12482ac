pub mod AskOnce
pub mod Digits
pub mod Items
pub mod Names
pub mod Prelude
