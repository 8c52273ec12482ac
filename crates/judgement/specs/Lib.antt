pub mod Counts
pub mod Heart
pub mod Judged
pub mod Laws
pub mod Noted
