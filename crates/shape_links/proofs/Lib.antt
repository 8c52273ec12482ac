pub mod Acquiring
pub mod Circles
pub mod Deciding
pub mod Links
pub mod OddLinks
pub mod Parity
pub mod Prelude
pub mod Watching
