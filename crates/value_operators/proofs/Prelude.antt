-- What the proofs of this crate cite of the crates below, and of its own definitions.
pub use Rattle.csp_atoms.proofs.ListLaws.{IsRising-union_of, IsRising-with_atom, kind_union_of, kind_with_atom}
pub use Rattle.csp_atoms.proofs.MemberLaws.{has-union_of, has-with_atom, same_set}
pub use Rattle.csp_atoms.proofs.OrderLaws.{less_number, same_exact, same_itself}
pub use Rattle.csp_atoms.specs.Prelude.{AllAbove, AllOfKind, IsAtomSet, IsOneKind, IsRising, fits, has_atom, kind_of, one_more, place_of, same, union_of, with_atom}
pub use Rattle.csp_atoms.specs.declared.value.Value.TheVariants.{One}
pub use Rattle.csp_atoms.specs.declared.value.Value.{Value}
unfoldable pub use Rattle.csp_atoms.specs.Prelude.{less}
pub use Rattle.csp_atoms.specs.declared.atom.Atom.{Atom}
pub use Rattle.csp_base.proofs.Booleans.{and_false, or_none, or_regroup, or_swap}
pub use Rattle.csp_base.proofs.Lists.{drop_read}
pub use Rattle.csp_base.proofs.Standard.{false≢true, or_right}
pub use Rattle.csp_base.specs.Prelude.{Tells, natural}
pub use Rattle.csp_base.specs.declared.stop.Stop.{Stop}
pub use Rattle.csp_program.specs.EventNumber.{row_count}
pub use Rattle.csp_program.specs.Prelude.{Env, Outcome, added, all_added, and_then, limited, numbers_from, range}
pub use Rattle.csp_program.specs.Value.{bound_to, bound_value}
pub use Rattle.csp_program.specs.declared.kinds.ValueKind.TheVariants.{Kind, SetLimit}
pub use Rattle.csp_program.specs.declared.kinds.ValueKind.{ValueKind}
pub use Rattle.dl_limits.specs.declared.TheConstants.{MOST_ELEMENTS}
pub use Rattle.std.proofs.Common.{Bool, Err, List, None, Ok, Option, Some, [], add-one, ap, append-nil, arith, cond, drop, drop-cons, eq-eqb, false, get_or, inl, inr, length, map, min, of_z, refl, subst, suc, sym, to_z, true, w64, zero, ℕ, ◌*◌, ◌++◌, ◌+◌, ◌-◌, ◌<◌, ◌^◌, ◌∙◌, ◌∷◌, ◌≡◌, ◌≤◌}
pub use Rattle.std.proofs.lemmas.Bool.{cases_lt, eqb-true}
pub use Rattle.std.proofs.lemmas.Int.{ints}
pub use Rattle.std.proofs.lemmas.Option.{slice_get_read}
pub use Rattle.std.specs.Prelude.{Result, nat_eq, nat_le, negsuc, pos, slice_get, ℤ, ◌&&◌, ◌+ℤ◌, ◌-ℤ◌, ◌<ℤ◌, ◌||◌, ◌≤ℤ◌}
pub use Rattle.std.specs.Result.{IsErrAnd}
pub use Rattle.value_laws.proofs.RowNumbers.{at_place}
pub use Rattle.value_laws.specs.Numbers.{events_from}
pub use Rattle.value_operators.specs.Env.{ArePlaces, env_in, numbered_from, parameters, with_bound}
pub use Rattle.value_operators.specs.Forms.{lack_sets}
pub use Rattle.value_operators.specs.Prelude.{EvalFault, Gives, IsParted}
