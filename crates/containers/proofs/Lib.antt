pub mod MembersLemmas
pub mod NumberingLemmas
pub mod SameLemmas
