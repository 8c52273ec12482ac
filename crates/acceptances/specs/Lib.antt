pub mod OfferTests
pub mod EventRows
