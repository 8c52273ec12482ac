pub mod TextsLemmas
pub mod FileLemmas
