pub mod Arguments
pub mod ChannelEvents
pub mod Lists
pub mod Naming
pub mod NewEvents
pub mod Pairs
pub mod Prelude
pub mod Walking
