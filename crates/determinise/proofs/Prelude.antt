-- What the proofs of this crate cite of the crates below, and of its own definitions.
pub use Rattle.containers.specs.Members.{with_new}
pub use Rattle.csp_base.proofs.Booleans.{same_tests}
pub use Rattle.csp_base.proofs.Lists.{same_list}
pub use Rattle.csp_base.proofs.Rising.{rises_from_increasing, same_members}
pub use Rattle.csp_base.proofs.Standard.{IsDistinct-from_apart, and_from, append-nil, append_assoc, cases_Bool, cases_lt, cond-false, cond-true, eqb-true, false≢true, flat_map-append, get_or-append_seam, get_or-drop, get_or-map, get_or-take, get_or_append_left, get_or_default, get_or_from_slice_get, length-append, length-drop, length-le_from_distinct_below, length-map, length-take, list_any_at, or_cases, or_left, or_right, slice_get_within, take-append-le, take_all}
pub use Rattle.csp_base.specs.Members.{has}
pub use Rattle.csp_base.specs.Prelude.{Tells}
pub use Rattle.csp_base.specs.declared.stop.Stop.{Stop}
pub use Rattle.csp_base.specs.Standard.{All, IsDistinct, IsNonDecreasingBy, IsStrictlyIncreasing, first_so, is_member, list_any, pointwise, second_so}
pub use Rattle.csp_tables.proofs.Listed.{listed_step, step_listed}
pub use Rattle.csp_tables.specs.Prelude.{After, HasAcceptances, IsAcceptance, IsBreadthFirst, IsMinimalOffer, IsOfferOf, IsRisingNode, IsStableOffer, IsTrace, MeetsInOrder, MeetsUpTo, Node, RawStep, RawTable, acceptances_after, end_of, is_possible, is_run, node_after, node_at, target, targets_of_nodes, targets_of_steps, visible}
pub use Rattle.determinise.specs.Determinised.{AreDifferentSets, Determinised, FollowsTraces}
pub use Rattle.determinise.specs.Known.{AreKnown, IsReady}
pub use Rattle.determinise.specs.ManySets.{HaveSameStates, ReachesSets}
pub use Rattle.determinise.specs.Progress.{AreMoreSets, AreNodeSteps, AreNodesSoFar, AreReachedSets, IsNodeOf, IsReachedFromSet, IsSomeNextSet, LeadsToSet, set_at}
pub use Rattle.dl_limits.specs.declared.TheConstants.{MOST_SETS}
pub use Rattle.std.proofs.Common.{Bool, IsTrue, List, Some, [], ap, arith, drop, eq-eqb, false, get_or, inl, inr, length, nat_eq, not, refl, rules, subst, suc, sym, take, true, zero, ℕ, ◌++◌, ◌+◌, ◌-◌, ◌<◌, ◌||◌, ◌∙◌, ◌∷◌, ◌≡◌, ◌≤◌}
pub use Rattle.std.proofs.lemmas.Bool.{not-false, not-true}
pub use Rattle.std.specs.Prelude.{IfErr, IfOk, OnOk, map, slice_get}
pub use Rattle.term_sets.proofs.MoveLists.{any_place, listed_at, place_of_move}
pub use Rattle.term_sets.proofs.Traces.{After-append, After-cut, After-event, After-first, After-none}
pub use Rattle.term_sets.specs.Marks.{IsUnmarked}
pub use Rattle.term_sets.specs.Moves.{AreMovesOf, IsNextSet, has_event, has_move}
pub use Rattle.term_sets.specs.TermSets.{IsSetAfter, IsSilentClosure, IsTermSet}
