-- What the proofs of this crate cite of the crates below, and of its own definitions.
pub use Rattle.csp_base.proofs.Booleans.{same_tests}
pub use Rattle.csp_base.proofs.Listed.{any_member, any_of, has_first}
pub use Rattle.csp_base.proofs.Lists.{push_cases, slice_get_some}
pub use Rattle.csp_base.proofs.Rising.{RisesFrom, increasing_from_rises, meets_of_from_member}
pub use Rattle.csp_base.proofs.SetLaws.{has-diff_of, has-inter_of}
pub use Rattle.csp_base.proofs.Standard.{any_passes_from_place, append-nil, append_assoc, cases_Bool, cases_eq, cases_lt, eq-eqb, eqb-true, err_from_is_err_and, false≢true, get_or-drop, get_or-set_other, get_or-set_same, get_or_append_left, get_or_default, get_or_push, length-append, length-drop, length-replicate, length-set, length-take, length_push, map-append, none-some, or_cases, or_from, or_left, or_right, reverse-append, reverse-reverse, same_Some, set, slice_get-get_or, slice_get_within, take-append-drop, take-suc, take-take}
pub use Rattle.csp_base.specs.Events.{diff_of, meets_of}
pub use Rattle.csp_base.specs.Members.{has}
pub use Rattle.csp_base.specs.Prelude.{greatest, inter_of}
pub use Rattle.csp_base.specs.declared.stop.Stop.{Stop}
pub use Rattle.csp_base.specs.Stops.{Tells}
pub use Rattle.csp_program.specs.declared.processes.Proc.{Proc}
pub use Rattle.csp_tables.proofs.Listed.{listed_silent, passing, silent_listed, step_at}
pub use Rattle.csp_tables.specs.Prelude.{Component, ComponentStep, HasRawForm, IsTableOf, Label, Path, RawStep, RawTable, has_silent, has_step, silent, visible}
pub use Rattle.digraph.proofs.WalkLaws.{Leads-from_places, same_circle, same_walk}
pub use Rattle.digraph.specs.Prelude.{AreHeights, Digraph, HasArc, IsCircle, Leads, Walk, has_arc}
pub use Rattle.dl_limits.specs.declared.TheConstants.{MOST_COMPONENTS}
pub use Rattle.hidden_bounds.specs.Exact.{AreOpen, OwnCirclesAreExact, OwnHeightsAreExact}
pub use Rattle.hidden_bounds.specs.Found.{PassesAt}
pub use Rattle.hidden_bounds.specs.Own.{AreOwnRows, GoesRoundItself, IsOwnHeight, OwnArc, has_step_by}
pub use Rattle.hidden_bounds.specs.Prelude.{AreBounds, AreKnown, AreReopened, AreWithin, IsBound, IsKnown, IsLeastFree, IsNextSum, IsSoFar, IsTakenFar, StayKnown, TellsLoop, TellsSum, alphabet_at, alphabet_of, bound_at, left_from, left_one, one_waiting, placed, reopened_to, standing_at, sum_before, taken_at, waiting}
unfoldable pub use Rattle.hidden_bounds.specs.Prelude.{taken_in}
pub use Rattle.hidden_bounds.specs.Scopes.{IsScope, IsTaking}
pub use Rattle.hidden_bounds.specs.Standings.{IsFreeHere, one_more}
pub use Rattle.hidden_bounds.specs.declared.bounding.HiddenBound.{HiddenBound}
pub use Rattle.hidden_bounds.specs.declared.bounding.LoopFault.{LoopFault}
pub use Rattle.hidden_bounds.specs.declared.ordering.Placed.{Placed}
pub use Rattle.hidden_bounds.specs.declared.scope.Scope.{Scope}
pub use Rattle.hidden_bounds.specs.declared.standings.Standing.{Standing}
pub use Rattle.hidden_steps.specs.Order.{AreTaken, GoesRound, HasNoOrder, IsAmong, IsHeight, IsNext, IsOrder, OwnStep, Taken, bound_over, hidden_bound, is_passed, share_hidden, shared_bounds}
pub use Rattle.net_sound.proofs.FlatLists.{step_alphabet}
pub use Rattle.net_sound.proofs.Numbered.{stands}
pub use Rattle.net_sound.proofs.Soundness.{path_alphabet}
pub use Rattle.network_stages.proofs.Tabling.{as_many, table_at}
pub use Rattle.network_stages.specs.Prelude.{HasTable, whole_room}
pub use Rattle.network_stages.specs.declared.component_tables.ComponentTable.{ComponentTable}
pub use Rattle.process_steps.specs.ComponentStep.{ProcessStep}
pub use Rattle.std.proofs.Common.{Bool, IfErr, IfNone, IfSome, IsTrue, List, None, Option, Result, Some, [], add-one, ap, ap₂, arith, drop, false, get_or, if◌then◌else◌, inl, inr, length, map, max, min, nat_eq, not, refl, replicate, reverse, rules, slice_get, subst, suc, sym, take, true, zero, ℕ, ◌&&◌, ◌*◌, ◌++◌, ◌+◌, ◌-◌, ◌<◌, ◌^◌, ◌||◌, ◌∙◌, ◌∷◌, ◌≡◌, ◌≢◌, ◌≤◌, ◌⊎◌}
pub use Rattle.std.specs.Cmp.{first_so, second_so}
pub use Rattle.std.specs.List.Sorted.{IsStrictlyIncreasing}
pub use Rattle.std.specs.List.{IsAnyAnswer, list_any}
pub use Rattle.std.specs.Prelude.{◌↔◌}
pub use Rattle.std.specs.Result.{IsErrAnd}
