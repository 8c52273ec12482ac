pub mod Arcs
mod Finding
pub mod HeightLaws
pub mod Listing
mod Marks
pub mod Prelude
pub mod Reaching
pub mod Results
mod Stepping
mod Trails
mod Turning
pub mod WalkLaws
