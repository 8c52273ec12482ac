mod Counting
pub mod Excluded
mod Forming
pub mod HeightSums
mod Joining
mod Linking
pub mod LowHeights
mod MadeParts
pub mod Prelude
mod Reading
mod SetsOfTables
pub mod Shaping
mod Sharing
mod Spelling
mod Stopping
pub mod Tabling
mod TrueStops
