pub mod Conditions
pub mod Duties
pub mod Network
pub mod Nodes
pub mod Sides
pub mod Tests
