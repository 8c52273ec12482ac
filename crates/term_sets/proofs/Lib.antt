pub mod Closures
pub mod First
pub mod JoinedLists
pub mod MoveLists
pub mod Prelude
pub mod Silence
pub mod Traces
