-- What the proofs of this crate cite of the crates below, and of its own definitions.
pub use Rattle.acceptances.proofs.Terms.{offers_by_test, step_from, test_by_offers, test_by_stable, unstable_by_step}
pub use Rattle.acceptances.specs.OfferTests.{can_do, is_unstable}
pub use Rattle.containers.proofs.MembersLemmas.{slice_get-append_left}
pub use Rattle.csp_base.proofs.Lists.{drop_read, map_push, take_read}
pub use Rattle.csp_base.proofs.Rising.{RisesFrom, RisesFrom-weaken, has_below, rises_from_increasing}
pub use Rattle.csp_base.proofs.Standard.{MatchBool-at_false, MatchBool-at_true, MatchOption-at_some, append-nil, cases_Bool, cases_eq, cases_lt, drop_all, eq-eqb, eqb-true, false≢true, get_or-drop, get_or-set_other, get_or-set_same, get_or_default, get_or_from_slice_get, le-ltb, length-append, length-drop, length-map, length-replicate, length-set, length-take, length-take-le, length_push, lt-ltb, ne_eqb, none-some, on_ok_weaker, or_left, or_right, same_Some, slice_get-get_or, slice_get-map, slice_get_within}
pub use Rattle.csp_base.specs.Members.{has}
pub use Rattle.csp_base.specs.Prelude.{StandsIn}
pub use Rattle.csp_base.specs.Standard.{IsStableByKey, filter, is_lt, nat_cmp, option_map, ties}
pub use Rattle.csp_tables.proofs.Listed.{passing, silent_at, silent_listed, step_listed}
pub use Rattle.csp_tables.specs.Prelude.{HasRawForm, Label, RawStep, RawTable, event_targets, silent, silent_targets, targets_in, visible}
pub use Rattle.dl_limits.specs.declared.TheConstants.{MOST_COMPONENTS}
pub use Rattle.numbered_walks.specs.Marks.{mark_count}
pub use Rattle.numbered_walks.specs.Prelude.{AllCan, AllDo, AllDraw, AllGo, AllGoOn, AreBlockCounts, AreOptions, AreOwnerRows, Can, Chooses, Does, Goes, GoesOn, Has, HasNone, IsAgreement, IsAtEnd, IsBefore, IsDrawn, IsStanding, IsStep, IsWalk, Numbered, OneCan, OwnsItsSteps, WalksOn, bit, component_at, first_terms, has_owner, is_agreed, marked, next_number, number_after, offer_count, options, owner_count, owner_marks, place_among, places_from, targets}
pub use Rattle.numbered_walks.specs.Rows.{AreStepRows, AreUnsorted, event_at, targets_by}
pub use Rattle.numbered_walks.specs.declared.moves.Move.{Move}
pub use Rattle.numbered_walks.specs.declared.standing.Standing.{Standing}
pub use Rattle.std.proofs.Common.{Bool, IsTrue, List, MatchBool, Some, [], add-one, ap, append_assoc, ap₂, arith, cond, drop, false, get_or, inl, inr, length, map, nat_eq, nat_lt, not, refl, replicate, rules, set, slice_get, subst, suc, sym, take, true, zero, ℕ, ◌&&◌, ◌*◌, ◌++◌, ◌+◌, ◌-◌, ◌/◌, ◌<◌, ◌^◌, ◌||◌, ◌↔◌, ◌∙◌, ◌∷◌, ◌≡◌, ◌≤◌, ◌⊎◌}
pub use Rattle.std.proofs.lemmas.Bool.{or_cases}
pub use Rattle.std.proofs.lemmas.List.Sorted.{IsNonDecreasingBy-from_sort_by_key, answers_always}
pub use Rattle.std.specs.Cmp.{first_so, second_so}
pub use Rattle.std.specs.List.Sorted.{IsNonDecreasingBy, IsStrictlyIncreasing}
