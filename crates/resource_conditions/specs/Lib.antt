pub mod Finding
pub mod Setting
pub mod Tests
