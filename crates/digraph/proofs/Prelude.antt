-- What the proofs of this crate cite of the crates below, and of its own definitions.
pub use Rattle.containers.proofs.MembersLemmas.{IsDistinct-with_new}
pub use Rattle.containers.specs.Members.{with_new}
pub use Rattle.csp_base.proofs.Listed.{listed_below}
pub use Rattle.csp_base.proofs.Standard.{Any-from_list_any, and_parts, append-nil, append_assoc, cases_Bool, cases_eq, cases_lt, cond-false, cond-true, count_by-le-length, eqb-true, false≢true, flat_map-append, fold-append, get_or-le-sum_by, get_or-map, get_or-take, get_or_append_left, get_or_default, get_or_past, get_or_push, get_or_read, length-append, length-le_from_distinct_below, length-map, length-set, length-take-le, length_push, list_any-append, list_any_at, nat_eq_equiv, ne_eqb, or-false, or_assoc, or_cases, or_left, or_right, set-get_or, sum_by-set, take-append-le, take_all, take_more}
pub use Rattle.csp_base.specs.Members.{has}
pub use Rattle.csp_base.specs.Prelude.{Tells}
pub use Rattle.csp_base.specs.declared.stop.Stop.{Stop}
pub use Rattle.csp_base.specs.Standard.{All, AllocError, flat_map}
unfoldable pub use Rattle.csp_base.specs.Standard.{IsDistinct}
pub use Rattle.digraph.specs.Digraph.{InRange, has_arc}
pub use Rattle.digraph.specs.Prelude.{AreHeights, AreMarks, Digraph, Done, HasArc, HasNoCircle, IsCircle, IsLeastCircle, IsLongestWalk, IsMarked, IsOpen, IsStep, IsTrail, Leads, Mark, New, Open, Reaches, ReachesFrom, Search, Walk, done_count, found_after, found_over, height_of, is_done, is_open, mark_at, mark_work, targets_of, work_left}
pub use Rattle.digraph.specs.Turn.{IsTurnedFrom}
pub use Rattle.std.proofs.Common.{Bool, Err, IsTrue, List, Ok, OnErr, OnOk, Result, [], ap, arith, below_more, cond, drop, eq-eqb, false, get_or, get_or-set_other, get_or-set_same, inl, inr, length, map, max, nat_eq, nat_lt, refl, rules, set, subst, suc, sym, take, true, zero, ℕ, ◌&&◌, ◌++◌, ◌+◌, ◌-◌, ◌<◌, ◌==◌, ◌^◌, ◌||◌, ◌↔◌, ◌∙◌, ◌∷◌, ◌≡◌, ◌≢◌, ◌≤◌, ◌⊎◌}
pub use Rattle.std.proofs.lemmas.Bool.{ltb-false}
pub use Rattle.std.proofs.lemmas.List.{get_or-append_right, get_or-drop, length-drop}
pub use Rattle.std.specs.List.{IsFirstBest, sum_by}
pub use Rattle.std.specs.Set.{is_member}
pub use Rattle.std.specs.Vec.{with_item}
