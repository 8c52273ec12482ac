-- What is defined here, under one name for those who import it.
pub use Rattle.csp_program.specs.Atoms.{added, limited, numbers_from, set_with}
pub use Rattle.csp_program.specs.Bound.{Bound, body_bound, def_bound, expr_bound, expr_bound_of_layer, exprs_bound, field_bound, gen_bound, gen_bound_of_layer, net_bound, net_bound_of_layer, pair_bound, part_bound, part_bound_of_layer, proc_bound, proc_bound_of_layer}
pub use Rattle.csp_program.specs.Depth.{expr_depth, expr_depth_of_layer, field_depth, gen_depth, gen_depth_of_layer, pair_depth, part_depth, part_depth_of_layer, proc_depth, proc_depth_of_layer}
pub use Rattle.csp_program.specs.Environments.{with_bound}
pub use Rattle.csp_program.specs.EventNumber.{KeepFirsts, event_count, first_event, row_count}
pub use Rattle.csp_program.specs.EventTable.{begins, begins_with, channel_events, event_of, event_table, events_from_channel, events_with, places_from, rows}
pub use Rattle.csp_program.specs.ExactExpr.{exact_expr, exact_gen, exact_part}
pub use Rattle.csp_program.specs.ExactParts.{exact_field, exact_head}
pub use Rattle.csp_program.specs.Free.{Binding, IsClosed, Names, any_of, apart_from, before, either, expr_free, expr_free_of_layer, gen_binding, gen_free_of_layer, head_free, net_free, net_free_of_layer, nowhere, pair_free, part_free, part_free_of_layer, proc_free, proc_free_of_layer, under}
pub use Rattle.csp_program.specs.InOrder.{AllClosed, AllClosedBodies, AllClosedTypes, IsClosedBody, IsEventTable, IsInOrder, atom_in_order, body_free, body_in_order, channel_in_order, def_in_order, expr_in_order, expr_in_order_of_layer, field_count, field_in_order, fields_left, gen_in_order, gen_in_order_of_layer, has_sets, head_in_order, is_component, is_datum, is_field_value, is_process, is_set_name, lacks_sets, net_in_order, net_in_order_of_layer, note_fits, pair_in_order, param_count, part_in_order, part_in_order_of_layer, proc_in_order, proc_in_order_of_layer, resource_in_order, roles_in_order, set_fits, set_in_order, sets_in_order, takes, value_in_order, with_fields}
pub use Rattle.csp_program.specs.Lists.{all_true, joined}
pub use Rattle.csp_program.specs.Loops.{Gathered, all_added, comprehension, fronts_added, gathered, items_added, lack_sets, over, walked}
pub use Rattle.csp_program.specs.Nesting.{BodyNests, DefNests, NestsWithin}
pub use Rattle.csp_program.specs.Outcome.{Outcome, and_then, or_fault}
pub use Rattle.csp_program.specs.Size.{elements_of, expr_size, field_size, gen_size, pair_size, part_size, proc_size, proc_size_of_layer}
pub use Rattle.csp_program.specs.Substitution.{Given, Open, OpenGen, after, after_all, each, expr_with, expr_with_of_layer, field_with, fields_with, gen_with_of_layer, gens_with, given_by, head_named, head_with, named, one, open_gen, pair_with, part_with, part_with_of_layer, past, proc_with, proc_with_of_layer, without}
pub use Rattle.csp_program.specs.Uses.Reaches.{by_use, by_way}
pub use Rattle.csp_program.specs.Uses.{Reaches, body_uses, def_uses, expr_uses, expr_uses_of_layer, gen_uses_of_layer, part_uses_of_layer}
pub use Rattle.csp_program.specs.Value.{Env, Front, Meaning, Turn, Uses, as_atom, as_number, as_set, as_truth, binary, bindings_of, body_value, bound_to, bound_value, def_value, divided, from, front, front_events, front_of_layer, fronts_in, in_field, in_range, items_in, many, meaning, meaning_of_layer, meanings, number, on_atoms, on_numbers, on_truths, one_event, quotient, range, remainder, row_in, row_of, set_binary, sets_of, truth, turn, turn_of_layer, under_each, uses_within, value_of, value_within, values_of, when}
unfoldable pub use Rattle.csp_program.specs.Value.{at_most}
