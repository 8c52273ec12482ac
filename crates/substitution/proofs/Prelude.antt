-- What the proofs of this crate cite of the crates below, and of its own definitions.
pub use Rattle.csp_atoms.specs.declared.atom.Atom.{Atom}
pub use Rattle.csp_atoms.specs.declared.value.Value.TheVariants.{Many, One}
pub use Rattle.csp_atoms.specs.declared.value.Value.{Value}
pub use Rattle.csp_base.proofs.Booleans.{and_false}
pub use Rattle.csp_base.proofs.Lists.{drop_read}
pub use Rattle.csp_base.proofs.Results.{if_map, pushed}
pub use Rattle.csp_base.proofs.Standard.{false≢true, or_right}
pub use Rattle.csp_base.specs.Prelude.{greatest, has}
pub use Rattle.csp_base.specs.Standard.{first_so, option_copied, second_so}
pub use Rattle.csp_program.proofs.Forms.{Every, ExprHas, GenHas, PartHas, ProcHas, each_expr, each_gen, each_part, each_proc, every}
pub use Rattle.csp_program.proofs.Loops.{fronts_by_loops, items_by_loops, set_with_items}
pub use Rattle.csp_program.specs.Prelude.{Binding, Env, Front, Gathered, Given, Meaning, Names, Open, OpenGen, Outcome, Turn, Uses, added, after, after_all, all_added, all_true, and_then, any_of, apart_from, as_atom, as_number, as_set, as_truth, before, binary, bound_to, bound_value, each, either, events_with, expr_depth, expr_depth_of_layer, expr_free, expr_free_of_layer, expr_in_order, expr_in_order_of_layer, expr_with, expr_with_of_layer, field_count, field_depth, field_in_order, field_with, fields_left, fields_with, front, front_events, front_of_layer, fronts_added, gathered, gen_binding, gen_depth, gen_depth_of_layer, gen_free_of_layer, gen_in_order, gen_in_order_of_layer, gen_with_of_layer, gens_with, head_free, head_in_order, head_named, head_with, in_field, is_process, items_added, lack_sets, many, meaning, meaning_of_layer, named, nowhere, one_event, open_gen, over, pair_depth, pair_free, pair_in_order, pair_with, part_depth, part_depth_of_layer, part_free, part_free_of_layer, part_in_order, part_in_order_of_layer, part_with, part_with_of_layer, past, proc_depth, proc_depth_of_layer, proc_free, proc_free_of_layer, proc_in_order, proc_in_order_of_layer, proc_with, proc_with_of_layer, range, row_in, row_of, set_binary, sets_of, takes, turn, turn_of_layer, under, value_in_order, values_of, walked, with_bound, without}
pub use Rattle.csp_program.specs.declared.programs.Channel.{Channel}
pub use Rattle.csp_program.specs.declared.programs.Content.{Content}
pub use Rattle.csp_program.specs.declared.kinds.ValueKind.TheVariants.{Kind}
pub use Rattle.csp_program.specs.declared.processes.Proc.TheViews.{out-Proc, roll-Proc, roll-out-Proc}
pub use Rattle.csp_program.specs.Substitution.{given_by}
pub use Rattle.csp_program.specs.declared.expressions.EventPart.{EventPart}
pub use Rattle.csp_program.specs.declared.expressions.Expr.TheFolds.{fold-EventPart, fold-Expr, fold-Gen, fold-roll-EventPart, fold-roll-Expr, fold-roll-Gen, map-Expr, map-Gen}
pub use Rattle.csp_program.specs.declared.expressions.Expr.TheOpen.{EventPart-F, Expr-F, Gen-F}
pub use Rattle.csp_program.specs.declared.expressions.Expr.TheViews.{out-EventPart, out-Expr, out-Gen, out-roll-EventPart, roll-EventPart, roll-Expr, roll-Gen, roll-out-EventPart, roll-out-Expr, roll-out-Gen}
pub use Rattle.csp_program.specs.declared.expressions.Expr.{Expr}
pub use Rattle.csp_program.specs.declared.expressions.Gen.{Gen}
pub use Rattle.csp_program.specs.declared.processes.Field.{Field}
pub use Rattle.csp_program.specs.declared.processes.Head.{Head}
pub use Rattle.csp_program.specs.declared.processes.Proc.TheFolds.{fold-roll-Proc, map-Proc}
pub use Rattle.csp_program.specs.declared.processes.Proc.TheOpen.{Proc-F}
pub use Rattle.csp_program.specs.declared.processes.Proc.{Proc}
pub use Rattle.std.proofs.Common.{Bool, Err, List, None, Ok, Option, Some, [], ap, append_assoc, arith, cond, drop, eq-eqb, false, get_or, length, map, max, nat_eq, not, refl, rules, subst, suc, sym, true, zero, ℕ, ◌&&◌, ◌*◌, ◌++◌, ◌+◌, ◌-◌, ◌<◌, ◌||◌, ◌∙◌, ◌∷◌, ◌≡◌, ◌≤◌}
pub use Rattle.std.proofs.lemmas.Bool.{eqb-true}
pub use Rattle.std.proofs.lemmas.List.{length-map}
pub use Rattle.std.specs.Prelude.{is_none, is_some, slice_get}
pub use Rattle.substitution.specs.Laws.{AreInOrder, GetNone, IsWithGiven, given_or, without_value}
pub use Rattle.substitution.specs.Named.{CountUp, EndBy, NoneFrom, atom_or, but_for, counts_up}
