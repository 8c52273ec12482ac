pub mod Env
pub mod Forms
pub mod Gives
pub mod Operands
pub mod Parted
pub mod Prelude
