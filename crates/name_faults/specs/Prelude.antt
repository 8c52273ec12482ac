-- What other libraries give, under one name for the files here.
pub use Rattle.csp_base.specs.Lists.{greatest}
pub use Rattle.csp_text.specs.Depth.{event_depth, field_depth, gen_depth, greatest_of_pairs, part_depth, tree_depth}
pub use Rattle.dl_limits.specs.declared.TheConstants.{MOST_BYTES, MOST_DATA_DEPTH, MOST_TREE_DEPTH}
pub use Rattle.name_faults.specs.Bodies.{bodies_after}
unfoldable pub use Rattle.name_faults.specs.Depths.{AreWithin}
pub use Rattle.name_faults.specs.Known.{IsNext, deep_at, defines, fault_after, names_in, nothing_known, resource_said, roles_said, says_after}
unfoldable pub use Rattle.name_faults.specs.Known.{fault_from}
pub use Rattle.name_faults.specs.Walked.{after, seen}
pub use Rattle.name_tables.specs.Firsts.{SameFirsts, SameNames}
pub use Rattle.script_names.specs.Prelude.{Binder, Entities, Fields, Meanings, Name, Said, all_say, annotation_says, bodies_from, body_place, data_in, data_place, declared_after, event_says_of_layer, expanded_body, fault_of, field_says_of_layer, first_fault, first_name, first_of, gen_says_of_layer, in_turn, is_among, is_data, kind_class, names_declared, network_in, next_definition, pair_says, parameters_after, part_says, part_says_of_layer, process_in, root_place, sense_in, tree_says, tree_says_of_layer, types_say, with_roles, with_uses}
pub use Rattle.script_names.specs.declared.occurrence.Occurrence.TheVariants.{Notes}
pub use Rattle.script_sizes.specs.Size.{AreSmall, declaration_depth, depth}
pub use Rattle.std.specs.List.{flat_map, list_any}
pub use Rattle.std.specs.Prelude.{Bool, IfOk, List, MatchOption, OnOk, [], false, length, map, max, min, nat_eq, nat_lt, not, option_copied, slice_get, slice_index, suc, take, zero, ℕ}
