-- What is defined here, under one name for those who import it.
pub use Rattle.script_names.specs.Contents.{body_of, channels_of, constants_of, defined, definitions_from, first_assertion, plain_content, resources_of, roles_of, root_of}
pub use Rattle.script_names.specs.DataDepth.{IsShallow, definition_depth, depth_at, expanded_depth, expanded_depth_of_layer, gen_expanded_depth, part_expanded_depth}
pub use Rattle.script_names.specs.Declaring.{AreParameters, Declares, IsAnnotated, IsEventSet, channels_of_types, nothing_yet}
pub use Rattle.script_names.specs.Depth.{below, deepest, depth_within, reach, said_by}
pub use Rattle.script_names.specs.Faults.{clashes, is_constant, is_inside, is_network, is_wrong_kind, kind_class, kind_network, leave_other, repeated_name, takes_other, unknown_name, when, wrong_count}
pub use Rattle.script_names.specs.FieldSets.{field_set, field_sets, may_be_field}
pub use Rattle.script_names.specs.Kinds.{AreKinds, AreKindsOf, HasClass, IsKind, LeadsTo, beyond, body_ends, end_of_call, end_of_name, ends, ends_at, ends_of_layer, first_ends, here, script_ends}
pub use Rattle.script_names.specs.Names.{Counts, Entities, Meanings, Name, channels_from, constants_from, counted, declared, declared_from, declares, first_of, is_among, meanings_of, names_declared, none_yet, same_name, sense_in, sense_of}
pub use Rattle.script_names.specs.Once.{AreOnce, with_roles, with_uses}
pub use Rattle.script_names.specs.Program.{IsProgram, all_events, with_events, with_sets}
pub use Rattle.script_names.specs.Resolved.{Answer, IsRefused, Resolves, and_next, channel_sets, resolved, told_in, types_of, with_names, with_root, with_table}
pub use Rattle.script_names.specs.Says.{Binder, Fields, Said, all_say, data_in, event_says_of_layer, field_says_of_layer, gen_says_of_layer, in_turn, network_in, pair_says, part_in, part_says, part_says_of_layer, process_in, tree_says, tree_says_of_layer}
pub use Rattle.script_names.specs.Scopes.{Scope, names_of, number_of, numbers_from, or_else, parameters, with}
pub use Rattle.script_names.specs.Told.{annotation_says, bodies_from, body_place, counts_of, data_place, decl_says, declared_after, each_after, expanded_body, fault_in, fault_of, first_fault, first_name, first_there, is_data, is_deep, name_fault, need_of, next_definition, parameters_after, root_place, too_deep, types_say, when_any}
pub use Rattle.script_names.specs.Typed.{Binding, Front, Layer, Reading, all_bind, bindings, bindings_bind, binds_of_layer, channel_number, definition_number, event_of_layer, expr_of_layer, exprs, field_of_layer, gen_of_layer, head_of, named, net_of_layer, network_of_layer, networked_of_layer, pairs, pairs_bind, part, part_of_layer, parts, parts_bind, proc_of_layer, procs, reading, reading_of_layer, under}
pub use Rattle.script_names.specs.Typing.{AreExprs, AreFields, AreFronts, AreGens, ArePairs, AreProcs, IsComposition, IsData, IsExpr, IsFront, IsNet, IsNetwork, IsProc, IsProcess, MayBind, Means, event_part, event_tree, part_tree}
