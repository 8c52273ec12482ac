pub mod Annotations
pub mod Joint
pub mod Laws
pub mod NetworkOf
pub mod Spelled
