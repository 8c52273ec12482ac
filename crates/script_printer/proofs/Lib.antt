pub mod Digits
pub mod Groups
pub mod Prelude
pub mod PrintedEquations
pub mod Written
