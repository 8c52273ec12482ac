-- What the proofs of this crate cite of the crates below, and of its own definitions.
pub use Rattle.csp_atoms.proofs.ListLaws.{one_kind}
pub use Rattle.csp_atoms.proofs.MemberLaws.{has-diff_of, has-inter_of, has-union_of, has-with_atom}
pub use Rattle.csp_atoms.proofs.OrderLaws.{before_from_less, less_number, same_exact, same_itself}
pub use Rattle.csp_atoms.proofs.SearchLaws.{has_place}
pub use Rattle.csp_atoms.proofs.SetLaws.{IsAtomSet-filter, IsAtomSet-union_of, IsAtomSet-with_atom}
pub use Rattle.csp_atoms.proofs.SetTest.{IsAtomSet-from, is_set-when}
pub use Rattle.csp_atoms.specs.Prelude.{AllAbove, AllOfKind, IsAtomSet, IsRising, alike, diff_of, fits, has_atom, inter_of, is_set, less, one_more, place_of, same, same_kind, union_of, with_atom}
pub use Rattle.csp_atoms.specs.declared.atom.Atom.{Atom}
pub use Rattle.csp_atoms.specs.declared.value.Value.TheVariants.{Many, One}
pub use Rattle.csp_atoms.specs.declared.value.Value.{Value}
pub use Rattle.csp_base.proofs.Booleans.{is_and, is_first, is_or_first, is_or_second, is_second}
pub use Rattle.csp_base.proofs.Standard.{append-nil, cases_lt, drop-length, eqb-true, false_from_ne_true, ints, length-append, length-le_from_distinct_below, length-map, lt-ltb, or_cases, or_left, or_right, slice_get-map, slice_get_within}
pub use Rattle.csp_base.specs.Prelude.{natural}
pub use Rattle.csp_base.specs.declared.operators.BinOp.{BinOp}
pub use Rattle.csp_base.specs.declared.operators.SetOp.{SetOp}
pub use Rattle.csp_program.proofs.Forms.{Every, ExprHas, GenHas, PartHas, each_expr}
pub use Rattle.csp_program.proofs.Loops.{fronts_by_loops, items_by_loops, set_with_atoms, set_with_items}
pub use Rattle.csp_program.proofs.Outcomes.{came_through}
pub use Rattle.csp_program.proofs.UsesWithin.{gen_uses, meaning_same, part_uses, value_within_same}
pub use Rattle.csp_program.specs.Prelude.{BodyNests, DefNests, Env, Front, Gathered, IsEventTable, IsInOrder, KeepFirsts, Meaning, Names, NestsWithin, Outcome, Reaches, Turn, Uses, added, all_added, all_true, and_then, any_of, as_atom, as_number, as_set, as_truth, atom_in_order, begins, begins_with, binary, body_in_order, body_uses, body_value, bound_to, bound_value, by_use, by_way, channel_events, channel_in_order, comprehension, def_in_order, def_uses, def_value, divided, either, event_count, event_of, event_table, events_from_channel, events_with, expr_in_order, expr_in_order_of_layer, expr_uses, expr_uses_of_layer, first_event, from, front, front_events, front_of_layer, fronts_added, gathered, gen_in_order, gen_in_order_of_layer, gen_uses_of_layer, in_field, in_range, is_datum, is_field_value, is_set_name, items_added, items_in, joined, lack_sets, lacks_sets, limited, many, meaning, meaning_of_layer, meanings, nowhere, number, numbers_from, on_atoms, on_numbers, on_truths, one_event, over, part_in_order, part_in_order_of_layer, part_uses_of_layer, places_from, quotient, remainder, row_count, row_in, row_of, rows, set_binary, set_in_order, set_with, sets_in_order, sets_of, takes, truth, turn, turn_of_layer, uses_within, value_in_order, value_within, values_of, walked, when, with_fields}
pub use Rattle.csp_program.specs.declared.expressions.EventPart.{EventPart}
pub use Rattle.csp_program.specs.declared.expressions.Expr.TheFolds.{fold-roll-EventPart, fold-roll-Expr, fold-roll-Gen, map-Expr, map-Gen}
pub use Rattle.csp_program.specs.declared.expressions.Expr.TheOpen.{EventPart-F, Expr-F, Gen-F}
pub use Rattle.csp_program.specs.declared.expressions.Expr.TheViews.{roll-EventPart, roll-Expr, roll-Gen}
pub use Rattle.csp_program.specs.declared.expressions.Expr.{Expr}
pub use Rattle.csp_program.specs.declared.expressions.Gen.{Gen}
pub use Rattle.csp_program.specs.declared.kinds.ValueKind.TheVariants.{Division, Kind, OutsideChannel, Range, SetLimit}
pub use Rattle.csp_program.specs.declared.kinds.ValueKind.{ValueKind}
pub use Rattle.csp_program.specs.declared.programs.Body.{Body}
pub use Rattle.csp_program.specs.declared.programs.Channel.{Channel}
pub use Rattle.csp_program.specs.declared.programs.Content.{Content}
pub use Rattle.csp_program.specs.declared.programs.Def.{Def}
pub use Rattle.csp_program.specs.declared.programs.EventInfo.{EventInfo}
pub use Rattle.dl_limits.specs.declared.TheConstants.{MOST_BINDINGS, MOST_ELEMENTS}
pub use Rattle.std.proofs.Common.{Bool, Err, IsTrue, List, None, Ok, Option, Some, [], ap, arith, cond, drop, eq-eqb, eqb, false, inl, inr, length, map, nat_eq, not, refl, subst, suc, sym, take, true, zero, ℕ, ◌&&◌, ◌*◌, ◌++◌, ◌+◌, ◌-◌, ◌<◌, ◌^◌, ◌∙◌, ◌∷◌, ◌≡◌, ◌≤◌, ◌⊎◌}
pub use Rattle.std.proofs.lemmas.Bool.{cases_eq, false≢true, leb-true}
pub use Rattle.std.specs.List.{AllByRecursion, list_any}
unfoldable pub use Rattle.std.specs.List.{IsDistinct}
pub use Rattle.std.specs.Option.{option_map}
pub use Rattle.std.specs.Prelude.{int_le, int_lt, is_none, is_some, nat_le, nat_lt, neg_ℤ, negsuc, pos, slice_get, ℤ, ◌*ℤ◌, ◌+ℤ◌, ◌-ℤ◌, ◌<ℤ◌, ◌↔◌}
pub use Rattle.value_laws.specs.Bindings.{ComprehensionsHoldTheirItems, ProductionsHoldWhatBegins, fronts_within, turns_within}
pub use Rattle.value_laws.specs.EnoughUses.{DefinitionsAreEnough, IsUnbounded, MoreUsesChangeNothing, UnboundedIsWorth, UsesNestWithinDefinitions, WorthIsUnbounded, uses_by}
pub use Rattle.value_laws.specs.Prelude.{AllRise, BeginnersStandTogether, BeginsWith, BeginsWithOne, ChannelsFit, EnvIsInOrder, EventsAreFound, HasSets, HaveValues, IsBinding, IsEventAt, IsItem, IsSetValue, NumbersArePlaces, PlacesAreNumbers, PlacesAreValues, StandsAt, ValuesAreInOrder, ValuesArePlaces, computed_number, events_each, events_from, field_place, fields_number, first_of, found_place, front_count, front_number, span}
