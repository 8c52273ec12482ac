pub mod Agreement
pub mod Compared
pub mod Complete
pub mod Conforming
