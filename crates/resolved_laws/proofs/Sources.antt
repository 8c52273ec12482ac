-- What other libraries give, under one name for the files here.
pub use Rattle.csp_atoms.specs.declared.atom.Atom.{Atom}
pub use Rattle.csp_atoms.specs.declared.value.Value.{Value}
pub use Rattle.csp_atoms.specs.declared.value.Value.TheVariants.{Many, One}
pub use Rattle.csp_base.proofs.Booleans.{is_and, is_or_first, is_or_second}
pub use Rattle.csp_base.proofs.Standard.{false_from_ne_true, length-append, length-map, lt-ltb, sum-map, sum_by-cons}
pub use Rattle.csp_base.specs.Lists.{EachOnce, greatest}
pub use Rattle.csp_program.proofs.Forms.{Every, ExprHas, GenHas, PartHas, each_expr}
pub use Rattle.csp_program.specs.Prelude.{AllClosed, AllClosedBodies, AllClosedTypes, Bound, IsClosed, IsClosedBody, IsEventTable, IsInOrder, KeepFirsts, Names, Outcome, Reaches, all_true, and_then, any_of, apart_from, atom_in_order, before, body_bound, body_free, body_in_order, body_uses, by_use, by_way, channel_in_order, def_bound, def_in_order, def_uses, either, event_count, event_of, event_table, events_from_channel, expr_bound, expr_bound_of_layer, expr_free, expr_free_of_layer, expr_in_order, expr_in_order_of_layer, expr_uses, expr_uses_of_layer, exprs_bound, field_bound, field_count, field_in_order, fields_left, first_event, gen_binding, gen_bound, gen_bound_of_layer, gen_depth_of_layer, gen_free_of_layer, gen_in_order, gen_in_order_of_layer, gen_uses_of_layer, has_sets, is_component, is_datum, is_field_value, is_process, is_set_name, joined, lacks_sets, net_bound, net_bound_of_layer, net_free, net_free_of_layer, net_in_order, net_in_order_of_layer, note_fits, nowhere, pair_bound, pair_free, pair_in_order, param_count, part_bound, part_bound_of_layer, part_depth_of_layer, part_free, part_free_of_layer, part_in_order, part_in_order_of_layer, part_uses_of_layer, proc_bound, proc_bound_of_layer, proc_free, proc_free_of_layer, proc_in_order, proc_in_order_of_layer, resource_in_order, roles_in_order, row_count, rows, set_fits, set_in_order, sets_in_order, takes, value_in_order, value_of, with_fields}
pub use Rattle.csp_program.specs.declared.expressions.EventPart.{EventPart}
pub use Rattle.csp_program.specs.declared.expressions.Expr.{Expr}
pub use Rattle.csp_program.specs.declared.expressions.Expr.TheFolds.{fold-roll-EventPart, fold-roll-Expr, fold-roll-Gen, map-Expr, map-Gen}
pub use Rattle.csp_program.specs.declared.expressions.Expr.TheOpen.{EventPart-F, Expr-F, Gen-F}
pub use Rattle.csp_program.specs.declared.expressions.Expr.TheViews.{out-roll-EventPart, roll-EventPart, roll-Expr, roll-Gen}
pub use Rattle.csp_program.specs.declared.expressions.Gen.{Gen}
pub use Rattle.csp_program.specs.declared.kinds.ValueKind.{ValueKind}
pub use Rattle.csp_program.specs.declared.networks.Net.{Net}
pub use Rattle.csp_program.specs.declared.networks.Net.TheFolds.{fold-roll-Net, map-Net}
pub use Rattle.csp_program.specs.declared.networks.Net.TheOpen.{Net-F}
pub use Rattle.csp_program.specs.declared.networks.Net.TheViews.{roll-Net}
pub use Rattle.csp_program.specs.declared.processes.Field.{Field}
pub use Rattle.csp_program.specs.declared.processes.Proc.{Proc}
pub use Rattle.csp_program.specs.declared.processes.Proc.TheFolds.{fold-roll-Proc, map-Proc}
pub use Rattle.csp_program.specs.declared.processes.Proc.TheOpen.{Proc-F}
pub use Rattle.csp_program.specs.declared.processes.Proc.TheViews.{roll-Proc}
pub use Rattle.csp_program.specs.declared.programs.Body.{Body}
pub use Rattle.csp_program.specs.declared.programs.Channel.{Channel}
pub use Rattle.csp_program.specs.declared.programs.Content.{Content}
pub use Rattle.csp_program.specs.declared.programs.Def.{Def}
pub use Rattle.csp_program.specs.declared.programs.EventInfo.{EventInfo}
pub use Rattle.csp_text.specs.declared.script.Decl.{Decl}
pub use Rattle.csp_text.specs.declared.tree.FieldTree.{FieldTree}
pub use Rattle.csp_text.specs.declared.tree.GenTree.{GenTree}
pub use Rattle.csp_text.specs.declared.tree.PartTree.{PartTree}
pub use Rattle.csp_text.specs.declared.tree.Tree.{Tree}
pub use Rattle.dl_limits.specs.declared.TheConstants.{MOST_DATA_DEPTH}
pub use Rattle.resolved_laws.specs.Laws.{HasFew, PlainIsInOrder, ResolvedIsInOrder}
pub use Rattle.script_names.specs.Prelude.{Answer, AreExprs, AreFields, AreFronts, AreGens, AreKinds, ArePairs, AreProcs, Counts, Declares, Entities, IsAnnotated, IsComposition, IsData, IsEventSet, IsExpr, IsFront, IsNet, IsNetwork, IsProc, IsProcess, IsShallow, Meanings, Name, Scope, all_events, and_next, channel_sets, channels_from, channels_of, channels_of_types, constants_from, counted, declared_from, definition_depth, depth_at, event_part, expanded_depth, expanded_depth_of_layer, exprs, field_set, field_sets, first_assertion, gen_expanded_depth, kind_class, kind_network, may_be_field, meanings_of, name_fault, none_yet, number_of, numbers_from, or_else, parameters, part_expanded_depth, plain_content, reading, same_name, told_in, types_of, with, with_events, with_names, with_root, with_sets, with_table}
pub use Rattle.script_names.specs.declared.fault.ResolveFault.{ResolveFault}
pub use Rattle.script_names.specs.declared.kinds.Class.{Class}
pub use Rattle.script_names.specs.declared.kinds.Entity.{Entity}
pub use Rattle.script_names.specs.declared.kinds.Kind.{Kind}
pub use Rattle.std.proofs.Common.{Bool, Err, IsTrue, List, None, Ok, Option, Some, [], ap, arith, cond, false, inl, inr, is_none, length, map, nat_eq, nat_le, nat_lt, not, refl, replicate, subst, suc, sym, true, zero, ℕ, ◌&&◌, ◌++◌, ◌+◌, ◌-◌, ◌<◌, ◌^◌, ◌∙◌, ◌∷◌, ◌≡◌, ◌≤◌, ◌⊎◌}
pub use Rattle.std.proofs.lemmas.Bool.{eq-eqb, eqb-true, false≢true, or_cases}
pub use Rattle.std.specs.List.{flat_map}
pub use Rattle.std.specs.Prelude.{Result, if◌then◌else◌, max, slice_get}
pub use Rattle.typed_laws.proofs.Back.{any_sets, sets_for_any}
