pub mod Digraph
pub mod Walk
pub mod Circle
pub mod Turn
pub mod Search
pub mod FoundOrder
pub use Rattle.containers.specs.Members
pub mod Prelude
