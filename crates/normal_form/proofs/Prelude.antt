-- What the proofs of this crate cite of the crates below, and of its own definitions.
pub use Rattle.acceptances.proofs.Member.{Member, Stands, member_at, stands}
pub use Rattle.containers.specs.Exact.{IsExact-pointwise}
pub use Rattle.csp_base.proofs.Booleans.{same_tests}
pub use Rattle.csp_base.proofs.Lists.{same_list}
pub use Rattle.csp_base.proofs.Rising.{RisesFrom, rises_from_increasing, same_members}
pub use Rattle.csp_base.proofs.SetLaws.{same_set}
pub use Rattle.csp_base.proofs.Standard.{All-from_get_or, IsDistinct-push, and_from, append-nil, both_ways, cases_Bool, cases_lt, eq-eqb, eqb-true, false≢true, flat_map-append, get_or-eq_default, get_or-take, get_or_append_left, get_or_default, get_or_push, length-le_from_distinct_below, length-take-le, length_push, list_any-append, nat_eq_equiv, nat_list_cmp_total, ne_eqb, or_cases, or_left, or_right, sorted_head, sorted_tail, take-append-drop, take-length, take-suc}
pub use Rattle.csp_base.specs.Members.{has}
pub use Rattle.csp_base.specs.Standard.{All, AllByRecursion, IsStrictlyIncreasing, Less, Ordering, is_lt, is_member, nat_cmp, ordering_reverse, slice_cmp}
unfoldable pub use Rattle.csp_base.specs.Standard.{IsDistinct, IsStrictlySortedBy}
pub use Rattle.csp_tables.proofs.Listed.{silent_listed, step_listed}
pub use Rattle.csp_tables.specs.Prelude.{BeginsAbove, HasAcceptances, HasRawForm, HaveSameFuture, IsAcceptance, IsBreadthFirst, IsListed, IsNormalTable, IsReached, IsRisingNode, IsRun, IsTrace, Label, MeetsInOrder, MeetsUpTo, Node, Offers, OffersAcceptance, Path, RawStep, RawTable, acceptances_after, end_of, is_possible, is_run, node_after, node_at, silent, target, targets_of_nodes, targets_of_steps, visible}
pub use Rattle.determinise.proofs.MoreSets.{meets_then}
pub use Rattle.determinise.specs.Determinised.{Determinised, FollowsTraces}
pub use Rattle.dl_limits.specs.declared.TheConstants.{MOST_SETS}
pub use Rattle.equal_futures.proofs.Futures.{future_after, same_events, same_marks}
pub use Rattle.equal_futures.proofs.Growing.{few_seen}
pub use Rattle.equal_futures.proofs.Numbered.{IsNumbered, keys_equal, numbered_step, numbers_equal}
pub use Rattle.equal_futures.proofs.RowLists.{once, read_below, target_below}
pub use Rattle.equal_futures.specs.Future.{AreFutureClasses, HaveEqualFuture, NodesRise, SeenInOrder, StepsRise}
pub use Rattle.normal_form.specs.Marks.{AreMarksOf}
pub use Rattle.normal_form.specs.Merged.{AreMerged, IsFirst, IsMergedTable, renamed}
pub use Rattle.std.proofs.Common.{Bool, IsTrue, List, [], add-one, ap, arith, below_more, cond, drop, false, get_or, inl, inr, length, nat_eq, refl, subst, suc, sym, take, true, zero, ℕ, ◌&&◌, ◌++◌, ◌+◌, ◌<◌, ◌||◌, ◌↔◌, ◌∙◌, ◌∷◌, ◌≡◌, ◌≤◌, ◌⊎◌}
pub use Rattle.std.proofs.lemmas.Bool.{and_parts, cond-false, cond-true}
pub use Rattle.std.proofs.lemmas.List.{append_assoc}
pub use Rattle.std.proofs.lemmas.Option.{slice_get_within}
pub use Rattle.std.specs.Cmp.Lexicographic.{pointwise}
pub use Rattle.std.specs.Prelude.{map, slice_index}
