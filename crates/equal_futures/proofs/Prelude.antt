-- What the proofs of this crate cite of the crates below, and of its own definitions.
pub use Rattle.containers.specs.Exact.{IsExact}
pub use Rattle.containers.specs.Members.{with_new}
pub use Rattle.csp_base.proofs.Booleans.{same_tests}
pub use Rattle.csp_base.proofs.Listed.{any_member, any_of, has_at}
pub use Rattle.csp_base.proofs.Standard.{Contains-permutation, IsPermutation-sym, and_parts, cases_Bool, cases_eq, cases_lt, cond-false, cond-true, eq-eqb, eqb-true, false≢true, get_or-drop, get_or-take, get_or_append_left, get_or_default, get_or_push, length-drop, length-take-le, length_push, lt-ltb, ltb-true, ne_eqb, or_cases, or_left, or_right, passes_at_first, position_or_len_push}
pub use Rattle.csp_base.specs.Prelude.{has}
pub use Rattle.csp_base.specs.Standard.{Contains, IsNonDecreasingBy, IsPermutation, is_member, list_any, position_or_len}
pub use Rattle.csp_tables.specs.Prelude.{BeginsAbove}
pub use Rattle.csp_tables.specs.Table.{Node, end_of, is_possible, is_run, node_after, node_at, target}
pub use Rattle.equal_futures.specs.Arrows.{AreAdded, AreFrom, AreGathered, AreIncoming, AreMarkSteps, IsSplitByEvents, event_at, has_arrow}
pub use Rattle.equal_futures.specs.Future.{AreFutureClasses, HaveEqualFuture, NodesRise, SeenInOrder, StepsRise}
pub use Rattle.equal_futures.specs.Renumbered.{AreRenumbered}
pub use Rattle.equal_futures.specs.Splits.{AreAllFrom, IsSplitByBlock, IsSplitByMarks}
pub use Rattle.equal_futures.specs.declared.classes.Classes.{Classes}
pub use Rattle.partitions.proofs.Splitting.{onward_trans, same_count}
pub use Rattle.partitions.specs.Blocks.{HasBlocks, IsCalm, IsOnward, IsSplit, IsTaken, IsWhole, State, block_at, count_of, is_source, state_of, waits, work}
pub use Rattle.std.proofs.Common.{Bool, List, [], ap, arith, below_more, cond, drop, false, get_or, inl, inr, length, nat_eq, nat_lt, refl, rules, subst, suc, sym, take, true, zero, ℕ, ◌&&◌, ◌++◌, ◌+◌, ◌-◌, ◌<◌, ◌||◌, ◌∙◌, ◌∷◌, ◌≡◌, ◌≤◌}
pub use Rattle.std.proofs.lemmas.Bool.{and_from, both_ways, false_from_ne_true}
pub use Rattle.std.proofs.lemmas.List.Sorted.{IsNonDecreasingBy-from_sort_by_key}
pub use Rattle.std.proofs.lemmas.List.{get_or_read}
pub use Rattle.std.proofs.lemmas.Result.{IfOk-weaker, on_ok_weaker}
pub use Rattle.std.specs.List.{All}
pub use Rattle.std.specs.Prelude.{slice_index, slice_index_or, ◌↔◌}
