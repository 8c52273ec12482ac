mod Prelude
pub mod CountLaws
pub mod RowLaws
pub mod SetLaws
