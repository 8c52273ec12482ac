-- What the proofs of this crate cite of the crates below, and of its own definitions.
pub use Rattle.csp_base.proofs.Booleans.{or_unless, same_or}
pub use Rattle.csp_base.proofs.Listed.{has_at, has_push_cases, same_number}
pub use Rattle.csp_base.proofs.Standard.{cases_eq, cases_lt, cond_both, drop_more, eq-eqb, eqb-true, false≢true, get_or-drop, get_or-replicate, get_or-set_other, get_or-set_same, get_or-take, get_or_append_left, get_or_past, get_or_push, le-ltb, length-drop, length-replicate, length-set, length-take-le, length_push, list_any-append, lt-ltb, ne_eqb, or-false, or_cases, or_left, or_right, take_more}
pub use Rattle.csp_base.specs.Members.{has}
pub use Rattle.partitions.specs.BlockSteps.{IsDivided, with_mark, with_waiting}
pub use Rattle.partitions.specs.Blocks.{AreBoth, AreCut, AreMarked, AreTogether, AreTouched, HasBlocks, HaveSameBlocks, IsCalm, IsCut, IsMarked, IsOnward, IsSplit, IsTaken, IsWhole, State, block_at, count_of, is_marked, is_source, sizes, state_of, waits}
pub use Rattle.std.proofs.Common.{Bool, List, [], ap, arith, drop, false, get_or, inl, inr, length, nat_eq, nat_lt, refl, replicate, rules, set, subst, suc, sym, take, true, zero, ℕ, ◌++◌, ◌+◌, ◌-◌, ◌<◌, ◌^◌, ◌||◌, ◌∙◌, ◌∷◌, ◌≡◌, ◌≤◌, ◌⊎◌}
pub use Rattle.std.proofs.lemmas.List.{get_or_read, with_items_is}
pub use Rattle.std.specs.Prelude.{slice_index, slice_index_or, ◌↔◌}
pub use Rattle.std.specs.Vec.{with_item, with_items}
