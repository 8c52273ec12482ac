-- What other libraries give, under one name for the files here.
pub use Rattle.csp_atoms.specs.declared.atom.Atom.{Atom}
pub use Rattle.csp_base.proofs.Booleans.{or_first_false, or_second_false}
pub use Rattle.csp_base.proofs.Lists.{flat_map_push}
pub use Rattle.csp_base.proofs.Standard.{Decides-eqb, eq-eqb, eqb-true, list_any-append, map-append, not-false, or-false, slice_eq-Decides}
pub use Rattle.csp_base.specs.Lists.{EachOnce, StandsIn, greatest}
pub use Rattle.csp_base.specs.Standard.{Decides, lookup}
pub use Rattle.csp_program.proofs.Forms.{Every, every}
pub use Rattle.csp_program.specs.Prelude.{Outcome, gen_depth_of_layer, part_depth_of_layer}
pub use Rattle.csp_program.specs.declared.expressions.EventPart.{EventPart}
pub use Rattle.csp_program.specs.declared.expressions.Expr.{Expr}
pub use Rattle.csp_program.specs.declared.expressions.Expr.TheFolds.{fold-roll-EventPart, fold-roll-Expr, fold-roll-Gen, map-Expr, map-Gen}
pub use Rattle.csp_program.specs.declared.expressions.Expr.TheOpen.{Expr-F, Gen-F}
pub use Rattle.csp_program.specs.declared.expressions.Expr.TheViews.{roll-Expr, roll-Gen}
pub use Rattle.csp_program.specs.declared.expressions.Gen.{Gen}
pub use Rattle.csp_program.specs.declared.networks.Net.{Net}
pub use Rattle.csp_program.specs.declared.processes.Field.{Field}
pub use Rattle.csp_program.specs.declared.processes.Head.{Head}
pub use Rattle.csp_program.specs.declared.processes.Proc.{Proc}
pub use Rattle.csp_program.specs.declared.programs.Body.{Body}
pub use Rattle.csp_program.specs.declared.programs.Content.{Content}
pub use Rattle.csp_program.specs.declared.programs.Def.{Def}
pub use Rattle.csp_text.specs.declared.script.Decl.{Decl}
pub use Rattle.csp_text.specs.declared.script.Script.{Script}
pub use Rattle.csp_text.specs.declared.tree.EventTree.{EventTree}
pub use Rattle.csp_text.specs.declared.tree.FieldTree.{FieldTree}
pub use Rattle.csp_text.specs.declared.tree.FieldTree.TheFolds.{fold-EventTree, fold-FieldTree, fold-GenTree, fold-PartTree, fold-Tree, fold-roll-EventTree, fold-roll-FieldTree, fold-roll-GenTree, fold-roll-PartTree, fold-roll-Tree, ind-Tree, map-FieldTree, map-GenTree, map-Tree}
pub use Rattle.csp_text.specs.declared.tree.FieldTree.TheOpen.{EventTree-F, FieldTree-F, GenTree-F, PartTree-F, Tree-F}
pub use Rattle.csp_text.specs.declared.tree.FieldTree.TheViews.{out-FieldTree, out-GenTree, out-Tree, roll-EventTree, roll-FieldTree, roll-GenTree, roll-PartTree, roll-Tree, roll-out-FieldTree, roll-out-GenTree, roll-out-Tree}
pub use Rattle.csp_text.specs.declared.tree.GenTree.{GenTree}
pub use Rattle.csp_text.specs.declared.tree.PartTree.{PartTree}
pub use Rattle.csp_text.specs.declared.tree.Tree.{Tree}
pub use Rattle.dl_limits.specs.declared.TheConstants.{MOST_DATA_DEPTH, MOST_EVENTS}
pub use Rattle.script_names.proofs.Scopes.{names_of-parameters}
pub use Rattle.script_names.specs.Kinds.LeadsTo.{beyond, here}
pub use Rattle.script_names.specs.Prelude.{Answer, AreExprs, AreFields, AreFronts, AreGens, AreKinds, AreKindsOf, AreOnce, ArePairs, AreParameters, AreProcs, Binder, Binding, Counts, Declares, Entities, Fields, Front, HasClass, IsAnnotated, IsComposition, IsData, IsEventSet, IsExpr, IsFront, IsNet, IsNetwork, IsProc, IsProcess, IsProgram, IsShallow, Layer, LeadsTo, MayBind, Meanings, Means, Name, Reading, Said, Scope, all_bind, all_events, all_say, and_next, below, bindings, bindings_bind, binds_of_layer, bodies_from, body_ends, body_of, body_place, channel_number, channel_sets, channels_from, channels_of, channels_of_types, clashes, constants_from, constants_of, counted, counts_of, data_in, data_place, decl_says, declared_after, declared_from, deepest, definition_depth, definition_number, definitions_from, depth_at, depth_within, end_of_call, end_of_name, ends, ends_at, ends_of_layer, event_of_layer, event_part, event_says_of_layer, event_tree, expanded_body, expanded_depth, expanded_depth_of_layer, exprs, fault_in, fault_of, field_of_layer, field_says_of_layer, field_sets, first_assertion, first_ends, first_fault, first_name, first_there, gen_expanded_depth, gen_of_layer, gen_says_of_layer, head_of, in_turn, is_among, is_constant, is_data, is_deep, is_inside, is_network, is_wrong_kind, kind_class, kind_network, leave_other, meanings_of, name_fault, named, names_declared, names_of, need_of, net_of_layer, network_of_layer, networked_of_layer, next_definition, none_yet, nothing_yet, number_of, numbers_from, or_else, pair_says, pairs, pairs_bind, parameters, parameters_after, part, part_expanded_depth, part_in, part_of_layer, part_says, part_says_of_layer, part_tree, parts, parts_bind, plain_content, proc_of_layer, procs, reach, reading, reading_of_layer, repeated_name, resolved, resources_of, roles_of, root_of, said_by, same_name, script_ends, sense_in, sense_of, takes_other, told_in, too_deep, tree_says, tree_says_of_layer, types_of, types_say, under, unknown_name, when, when_any, with, with_events, with_names, with_roles, with_root, with_sets, with_table, with_uses, wrong_count}
pub use Rattle.script_names.specs.declared.fault.ResolveFault.{ResolveFault}
pub use Rattle.script_names.specs.declared.kinds.Class.{Class}
pub use Rattle.script_names.specs.declared.kinds.End.{End}
pub use Rattle.script_names.specs.declared.kinds.Entity.{Entity}
pub use Rattle.script_names.specs.declared.kinds.Kind.{Kind}
pub use Rattle.script_names.specs.declared.kinds.Need.{Need}
pub use Rattle.script_names.specs.declared.kinds.Place.{Place}
pub use Rattle.script_names.specs.declared.kinds.Sense.{Sense}
pub use Rattle.script_names.specs.declared.kinds.Use.{Use}
pub use Rattle.script_names.specs.declared.occurrence.Occurrence.{Occurrence}
pub use Rattle.script_names.specs.declared.occurrence.Occurrence.TheVariants.{Binds, Form, Notes, Parallel, Uses}
pub use Rattle.std.proofs.Common.{Bool, Err, IsTrue, List, None, Ok, Option, Result, Some, [], ap, append-nil, append_assoc, arith, cond, false, length, map, nat_eq, nat_le, nat_lt, not, option_map, pos, refl, replicate, subst, suc, sym, true, zero, ℕ, ◌&&◌, ◌++◌, ◌+◌, ◌-◌, ◌<◌, ◌||◌, ◌∙◌, ◌∷◌, ◌≡◌, ◌≤◌}
pub use Rattle.std.proofs.lemmas.List.{length-map}
pub use Rattle.std.specs.List.{flat_map, list_any}
pub use Rattle.std.specs.Prelude.{if◌then◌else◌, max, slice_get}
