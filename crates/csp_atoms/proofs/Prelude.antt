-- What the proofs of this crate cite of the crates below, and of its own definitions.
pub use Rattle.csp_atoms.specs.Prelude.{AllAbove, AllOfKind, IsAtomSet, IsOneKind, IsRising, alike, atom_number, begins_with, both_events, count_before, diff_of, event_atoms, event_number, event_numbers, fits, has_atom, inter_of, is_set, kind_of, leads, least_of, one_more, order_of, place_of, rest_after, result_of, same_kind, stands_at, union_of, with_atom, with_last}
unfoldable pub use Rattle.csp_atoms.specs.Prelude.{less, same}
pub use Rattle.csp_atoms.specs.declared.atom.Atom.{Atom}
pub use Rattle.csp_base.proofs.Booleans.{and_false, is_and, is_first, is_second, or_again, or_regroup, or_swap}
pub use Rattle.csp_base.proofs.Rising.{RisesFrom, increasing_from_rises}
pub use Rattle.csp_base.proofs.Standard.{eqb-true, int_cmp_total, int_ranked, ints, nat_cmp_total, on_total, then_total, tied_itself}
pub use Rattle.csp_base.specs.Prelude.{keeps}
pub use Rattle.csp_base.specs.declared.operators.SetOp.TheVariants.{Diff, Inter, Union}
pub use Rattle.csp_base.specs.declared.operators.SetOp.{SetOp}
pub use Rattle.csp_base.specs.Standard.{Equal, Greater, IsStrictlyIncreasing, IsTotalOrder, Less, Ordering, insert, int_cmp, is_eq, is_lt, is_some, ordering_reverse}
pub use Rattle.std.proofs.Common.{Bool, IsTrue, List, None, Option, Some, [], ap, append_assoc, arith, cond, false, get_or, inl, inr, length, not, refl, subst, suc, sym, take, true, zero, ℕ, ◌&&◌, ◌++◌, ◌+◌, ◌-◌, ◌/◌, ◌<◌, ◌||◌, ◌∙◌, ◌∷◌, ◌≡◌, ◌≤◌, ◌⊎◌}
pub use Rattle.std.proofs.lemmas.Bool.{eq-eqb, false≢true, true≢false}
pub use Rattle.std.proofs.lemmas.List.{append-nil, take_all, take_more}
pub use Rattle.std.specs.List.{filter}
pub use Rattle.std.specs.Option.{option_map}
pub use Rattle.std.specs.Prelude.{pos, ℤ, ◌<ℤ◌}
