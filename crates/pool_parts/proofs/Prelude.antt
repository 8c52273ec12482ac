-- What proofs of this crate cite of elsewhere, under one name.
pub use Rattle.containers.proofs.MembersLemmas.{slice_get-append_left}
pub use Rattle.containers.specs.Members.{with_new}
pub use Rattle.csp_base.proofs.Lists.{drop_read}
pub use Rattle.csp_base.proofs.Standard.{IsDistinct-head, IsDistinct-tail, or_right, slice_get-get_or}
pub use Rattle.csp_base.specs.Prelude.{EachOnce, greatest, total}
pub use Rattle.csp_base.specs.Standard.{AllByRecursion, IsDistinct, is_member}
pub use Rattle.csp_program.specs.Prelude.{Binding, Given, Names, any_of, before, either, expr_depth, expr_free, expr_size, field_depth, field_size, gen_binding, gen_depth, gen_size, given_by, nowhere, pair_depth, pair_free, pair_size, part_depth, part_free, part_size, under}
pub use Rattle.csp_program.specs.declared.expressions.EventPart.{EventPart}
pub use Rattle.csp_program.specs.declared.expressions.Expr.{Expr}
pub use Rattle.csp_program.specs.declared.processes.Field.{Field}
pub use Rattle.csp_program.specs.declared.expressions.Gen.{Gen}
pub use Rattle.pool_parts.specs.Counting.{capped}
unfoldable pub use Rattle.pool_parts.specs.Low.{IsLow}
pub use Rattle.pool_parts.specs.Stored.{AreNoted, IsAbsent, IsMeasure, IsStart}
pub use Rattle.pool_parts.specs.declared.measure.Measure.{Measure}
pub use Rattle.std.proofs.Common.{Bool, List, None, Option, Some, [], ap, arith, cond, drop, drop_of_length-le, false, get_or, inl, inr, length, map, max, min, nat_eq, not, refl, slice_get, subst, suc, sym, true, zero, ℕ, ◌&&◌, ◌*◌, ◌++◌, ◌+◌, ◌<◌, ◌||◌, ◌∙◌, ◌∷◌, ◌≡◌, ◌≤◌, ◌⊎◌}
pub use Rattle.std.proofs.lemmas.Bool.{eqb-true, false≢true}
pub use Rattle.std.proofs.lemmas.Grind.{common_steps}
pub use Rattle.std.specs.Option.{option_copied}
pub use Rattle.std.specs.Prelude.{Err, IfOk, IfSome, MatchOption, Ok, OnErr, OnOk, Result, is_some}
pub use Rattle.substitution.specs.Laws.{GetNone}
pub use Rattle.substitution.specs.Named.{NoneFrom}
