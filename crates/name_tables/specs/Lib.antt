pub mod Prelude
pub mod Firsts
pub mod Hidden
pub mod Counted
pub mod Ends
pub mod Spelling
