-- What other libraries give, under one name for the files here.
pub use Rattle.csp_base.proofs.Lists.{drop_read, flat_map_push, take_read}
pub use Rattle.csp_base.proofs.Standard.{append-nil, drop_of_length-le, length_push, lt-ltb, ltb-true, ltb_from_iff, map-append, slice_get-map, take-append_seam}
pub use Rattle.csp_base.specs.Lists.{greatest}
pub use Rattle.csp_base.specs.declared.operators.BinOp.{BinOp}
pub use Rattle.csp_base.specs.declared.operators.SetOp.{SetOp}
pub use Rattle.csp_base.specs.Standard.{Bor, flat_map, option_map}
pub use Rattle.csp_text.specs.Prelude.{field_depth, gen_depth, greatest_of_pairs, part_depth, tree_depth}
pub use Rattle.csp_text.specs.declared.tree.EventTree.{EventTree}
pub use Rattle.csp_text.specs.declared.tree.FieldTree.TheViews.{out-EventTree, out-PartTree}
pub use Rattle.csp_text.specs.declared.tree.Tree.{the_lemmas, Tree}
pub use Rattle.csp_text.specs.declared.script.Decl.{Decl}
pub use Rattle.csp_text.specs.declared.tree.FieldTree.{FieldTree}
pub use Rattle.csp_text.specs.declared.tree.GenTree.{GenTree}
pub use Rattle.csp_text.specs.declared.tree.PartTree.{PartTree}
pub use Rattle.dl_limits.specs.declared.TheConstants.{MOST_BYTES, MOST_DATA_DEPTH}
pub use Rattle.name_faults.specs.Bodies.{bodies_after, body_of, greatest_level, level_of, use_of, used}
pub use Rattle.name_faults.specs.Depths.{deepest_if, deepest_of, deepest_use}
unfoldable pub use Rattle.name_faults.specs.Depths.{AreWithin}
unfoldable pub use Rattle.name_faults.specs.Depths.{within}
pub use Rattle.name_faults.specs.Known.{IsKnown, IsNext, deep_at, defines, fault_after, names_in, nothing_known, says_after}
unfoldable pub use Rattle.name_faults.specs.Known.{fault_from}
pub use Rattle.name_faults.specs.Walked.{Walked, after, after_fields, after_gens, after_pairs, after_parts, after_trees, field_binder, gen_binder, seen}
unfoldable pub use Rattle.name_faults.specs.Walked.{field_names, field_said, fields_said, gen_names, gen_said, gens_said, pair_said, pairs_said, part_said, parts_said, tree_said, trees_said, under_fields, under_gens}
pub use Rattle.name_faults.specs.declared.body.Body.{Body}
pub use Rattle.name_faults.specs.declared.known.Known.{Known}
pub use Rattle.name_tables.proofs.NameLemmas.{same_meanings, same_names-append}
pub use Rattle.name_tables.specs.Firsts.{SameNames}
pub use Rattle.script_names.specs.Prelude.{Binder, Counts, Entities, Meanings, Name, Said, Scope, all_say, annotation_says, below, bodies_from, body_place, channels_from, constants_from, counted, counts_of, data_in, data_place, decl_says, declared_after, declared_from, deepest, depth_within, each_after, fault_in, fault_of, first_fault, first_name, first_of, first_there, in_turn, is_among, is_data, is_deep, is_inside, is_wrong_kind, kind_class, meanings_of, name_fault, names_declared, names_of, network_in, next_definition, none_yet, parameters_after, part_in, process_in, reach, repeated_name, said_by, sense_in, too_deep, tree_says, types_say, unknown_name, with_roles, with_uses, wrong_count}
pub use Rattle.script_names.specs.declared.kinds.Kind.{Kind}
pub use Rattle.script_names.specs.declared.fault.ResolveFault.{ResolveFault}
pub use Rattle.script_names.specs.Says.{under}
pub use Rattle.script_names.specs.declared.kinds.Class.{Class}
pub use Rattle.script_names.specs.declared.kinds.Entity.{Entity}
pub use Rattle.script_names.specs.declared.kinds.Place.{Place}
pub use Rattle.script_names.specs.declared.kinds.Sense.{Sense}
pub use Rattle.script_names.specs.declared.kinds.Use.{Use}
pub use Rattle.script_names.specs.declared.occurrence.Occurrence.TheVariants.{Binds, Declares, Form, Notes, Parallel, Uses}
pub use Rattle.script_names.specs.declared.occurrence.Occurrence.{Occurrence}
pub use Rattle.script_sizes.specs.Size.{declaration_depth, declaration_size, depth, size}
pub use Rattle.std.proofs.Common.{Bool, IsTrue, List, None, Option, Some, [], add-one, ap, append_assoc, arith, drop, false, get_or, length, length-append, map, max, min, nat_lt, refl, rules, slice_get, slice_index, subst, suc, sym, take, true, zero, ℕ, ◌&&◌, ◌*◌, ◌++◌, ◌+◌, ◌-◌, ◌<◌, ◌↔◌, ◌∙◌, ◌∷◌, ◌≡◌, ◌≤◌}
pub use Rattle.std.proofs.lemmas.List.{length-map, length-take, map_more, take-map}
pub use Rattle.std.specs.List.{list_any}
pub use denote.Param.Weighed.{at_most, most}
