-- What the proofs of this crate cite of the crates below, and of its own definitions.
pub use Rattle.acceptances.specs.EventRows.{AreEventRows, IsRowFor, StandsInRow}
pub use Rattle.acceptances.specs.OfferTests.{AreLeastOf, AreMarks, AreOffers, can_do, has_smaller, is_smaller, is_unstable, offers_at}
pub use Rattle.csp_base.proofs.Booleans.{and_second, or_none, same_tests}
pub use Rattle.csp_base.proofs.Listed.{same_number}
pub use Rattle.csp_base.proofs.SetLaws.{has-with_member, increasing-with_member, is_subset_of_from_members, member_of_superset}
pub use Rattle.csp_base.proofs.Standard.{Contains-dedup, Contains-from_dedup, Contains-permutation, IsPermutation-sym, IsStrictlySortedBy-dedup, IsStrictlySortedBy-filter, any_passes_from_place, cases_Bool, cases_eq, cases_lt, dedup_is, eqb-true, false≢true, get_or-set_other, get_or-set_same, get_or_default, length-set, list_any-append, list_any_at, list_any_more, nat_list_cmp_total, nat_list_eq_equiv, ne_eqb, not-true, not_from_false, or-false, or_cases, or_comm, or_left, or_right}
pub use Rattle.csp_base.specs.Events.{has, is_subset_of, with_member}
pub use Rattle.csp_base.specs.Standard.{All, Contains, DiffersFromLast, IsFiltered, IsPermutation, IsSorted, IsStrictlyIncreasing, filter, first_so, list_any, nat_cmp, pointwise, second_so, slice_cmp, texts_ties}
unfoldable pub use Rattle.csp_base.specs.Standard.{IsStrictlySortedBy}
pub use Rattle.csp_tables.proofs.Listed.{passing, silent_at, step_at}
pub use Rattle.csp_tables.specs.Prelude.{HasRawForm, IsListed, IsMinimalOffer, IsOfferOf, IsWithin, Offers, OffersAcceptance, RawStep, RawTable, Stable, silent}
pub use Rattle.std.proofs.Common.{Bool, IsTrue, List, None, Option, Some, [], ap, arith, cond, eq-eqb, false, get_or, inl, inr, length, nat_eq, not, refl, set, subst, suc, sym, take, true, zero, ℕ, ◌%◌, ◌&&◌, ◌++◌, ◌+◌, ◌<◌, ◌||◌, ◌↔◌, ◌∙◌, ◌∷◌, ◌≡◌, ◌⊎◌}
pub use Rattle.std.proofs.lemmas.Result.{IfOk-weaker}
pub use Rattle.std.specs.Prelude.{slice_get}
