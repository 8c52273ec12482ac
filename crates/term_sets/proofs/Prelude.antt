-- What the proofs of this crate cite of the crates below, and of its own definitions.
pub use Rattle.acceptances.proofs.Terms.{step_from}
pub use Rattle.csp_base.proofs.Listed.{listed_below, same_number}
pub use Rattle.csp_base.proofs.Standard.{All-more, IsDistinct-IsPermutation, IsNonDecreasingBy-from_all_adjacent, IsNonDecreasingBy-from_sort, IsPermutation-refl, IsStrictlyIncreasing-from_distinct, cases_Bool, cases_eq, cases_lt, eqb-true, get_or-append_right, get_or-map, get_or-set_other, get_or-set_same, get_or_append_left, get_or_default, le_from_is_le, length-append, length-le_from_distinct_below, length-map, length-set, list_any-IsPermutation, list_any-append, list_any_at, list_any_more, nat_eq_equiv, ne_eqb, or-false, or_cases, or_left, or_right, take_all}
pub use Rattle.csp_base.specs.Members.{has}
pub use Rattle.csp_base.specs.Standard.{IsDistinct, IsNonDecreasing, IsNonDecreasingBy, IsPermutation, IsStrictlyIncreasing, first_so, list_any, second_so}
pub use Rattle.csp_tables.specs.Prelude.{After, HasRawForm, Label, Path, RawStep, silent, visible, visible_events}
pub use Rattle.csp_tables.specs.RawTable.{RawTable}
pub use Rattle.digraph.proofs.Listing.{same_has}
pub use Rattle.digraph.proofs.Reaching.{IsSearched, all_below, distinct_over, members_found, searched_first, searched_more, whole}
pub use Rattle.digraph.specs.FoundOrder.{found_after}
pub use Rattle.digraph.specs.Prelude.{Digraph, HasArc, Reaches, ReachesFrom, Walk, targets_of}
pub use Rattle.std.proofs.Common.{Bool, IsTrue, List, [], ap, arith, drop, eq-eqb, false, get_or, inl, inr, length, nat_eq, refl, rules, set, subst, suc, sym, take, true, zero, ℕ, ◌&&◌, ◌++◌, ◌+◌, ◌-◌, ◌<◌, ◌^◌, ◌||◌, ◌↔◌, ◌∙◌, ◌∷◌, ◌≡◌, ◌≤◌}
pub use Rattle.std.proofs.lemmas.Bool.{false≢true}
pub use Rattle.std.proofs.lemmas.List.Sorted.{IsNonDecreasingBy-from_sort_by_key}
pub use Rattle.std.proofs.lemmas.Result.{IfOk-weaker}
pub use Rattle.std.specs.List.{All, flat_map}
pub use Rattle.std.specs.Prelude.{map}
pub use Rattle.tau_order.proofs.SilentWalks.{arc_of, step_of}
pub use Rattle.tau_order.specs.SilentRows.{AreSilentRows}
pub use Rattle.term_sets.specs.Marks.{AreMarksOf}
pub use Rattle.term_sets.specs.Moves.{AreMoveRows, AreMovesOf, AreTargetLists, HaveSameMoves, IsSilentlyReached, has_move}
pub use Rattle.term_sets.specs.TermSets.{AreMinimalOffers, IsSetAfter, IsTermSet}
