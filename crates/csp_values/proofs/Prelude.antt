-- What the proofs of this crate cite of the crates below, and of its own definitions.
pub use Rattle.csp_atoms.proofs.OrderLaws.{same_exact, same_itself}
pub use Rattle.csp_atoms.specs.Prelude.{AllOfKind, IsOneKind, fits, has_atom, kind_of, with_atom}
unfoldable pub use Rattle.csp_atoms.specs.Prelude.{same}
pub use Rattle.csp_atoms.specs.declared.atom.Atom.{Atom}
pub use Rattle.csp_atoms.specs.declared.value.Value.TheVariants.{Many, One}
pub use Rattle.csp_atoms.specs.declared.value.Value.{Value}
pub use Rattle.csp_base.proofs.Lists.{drop_read}
pub use Rattle.csp_base.proofs.Standard.{or_parts, or_right}
pub use Rattle.csp_base.specs.Prelude.{Tells, total}
pub use Rattle.csp_base.specs.declared.operators.BinOp.{BinOp}
pub use Rattle.csp_base.specs.declared.operators.SetOp.{SetOp}
pub use Rattle.csp_program.proofs.Loops.{fronts_by_loops, items_by_loops, set_with_atoms, set_with_items}
pub use Rattle.csp_program.proofs.Outcomes.{and_then_regroup, came_through}
pub use Rattle.csp_program.specs.Prelude.{Env, Front, Gathered, Meaning, Outcome, Turn, added, all_added, and_then, as_atom, as_number, as_set, as_truth, body_value, bound_to, bound_value, def_value, event_table, events_with, from, front, front_events, front_of_layer, fronts_added, gathered, in_field, items_added, lack_sets, limited, many, meaning, meaning_of_layer, meanings, number, one_event, over, range, row_count, row_in, row_of, set_binary, sets_of, turn, turn_of_layer, uses_within, value_of, value_within, walked, when}
pub use Rattle.csp_program.specs.declared.expressions.EventPart.{EventPart}
pub use Rattle.csp_program.specs.declared.expressions.Expr.TheFolds.{fold-EventPart, fold-Gen, fold-roll-EventPart, fold-roll-Expr, fold-roll-Gen, map-Expr}
pub use Rattle.csp_program.specs.declared.expressions.Expr.TheOpen.{EventPart-F, Expr-F, Gen-F}
pub use Rattle.csp_program.specs.declared.expressions.Expr.TheViews.{out-EventPart, out-Gen, roll-Expr, roll-Gen, roll-out-EventPart, roll-out-Gen}
pub use Rattle.csp_program.specs.declared.expressions.Expr.{Expr, fold-Expr}
pub use Rattle.csp_program.specs.declared.expressions.Gen.{Gen}
pub use Rattle.csp_program.specs.declared.kinds.ValueKind.TheVariants.{Kind, OutsideChannel, SetLimit}
pub use Rattle.csp_program.specs.declared.kinds.ValueKind.{ValueKind}
pub use Rattle.csp_program.specs.declared.networks.Net.{Net}
pub use Rattle.csp_program.specs.declared.processes.Proc.{Proc}
pub use Rattle.csp_program.specs.declared.programs.Body.{Body}
pub use Rattle.csp_program.specs.declared.programs.Channel.{Channel}
pub use Rattle.csp_program.specs.declared.programs.Content.{Content}
pub use Rattle.csp_program.specs.declared.programs.Def.{Def}
pub use Rattle.csp_values.specs.Course.{Course, GivesBinding, GivesStep, IsUnder, at_turn, begun, bindings, course, each_taken, faulty, name_of, no_more, one, skipped, step, taken, taken_as, turns_from, unless_faulty}
unfoldable pub use Rattle.csp_values.specs.Course.{after, course_over}
pub use Rattle.csp_values.specs.Stays.{AgreeBeside, PartStays, bind, binds_of_layer}
unfoldable pub use Rattle.csp_values.specs.Stays.{Stays}
pub use Rattle.csp_values.specs.Worth.{GivesTally, chosen, gathered_of, range_of, set_of, yielded}
unfoldable pub use Rattle.csp_values.specs.Worth.{atoms_worth, body_worth, event_worth, fields_worth, front_worth, number_worth, one_more_binding, truth_worth, use_worth, walk_worth, with_front, with_fronts, with_items, worth, worths}
pub use Rattle.csp_values.specs.declared.tally.Tally.{Tally}
pub use Rattle.csp_values.specs.declared.walk.Frame.{Frame}
pub use Rattle.csp_values.specs.declared.walk.Step.{Step}
pub use Rattle.csp_values.specs.declared.walk.Walk.{Walk}
pub use Rattle.dl_limits.specs.declared.TheConstants.{MOST_BINDINGS}
pub use Rattle.std.proofs.Common.{Bool, Err, List, None, Ok, Option, Some, [], ap, append-nil, append_assoc, arith, cond, drop, drop_of_length-le, false, get_or, inr, length, map, min, refl, subst, suc, sym, true, zero, ℕ, ◌*◌, ◌++◌, ◌+◌, ◌-◌, ◌<◌, ◌^◌, ◌||◌, ◌∙◌, ◌∷◌, ◌≡◌, ◌≤◌}
pub use Rattle.std.proofs.lemmas.Bool.{false≢true}
pub use Rattle.std.proofs.lemmas.List.{length_push, map-append, same_from_push}
pub use Rattle.std.proofs.lemmas.Option.{slice_get_read}
pub use Rattle.std.specs.List.{All, AllWithin}
pub use Rattle.std.specs.Prelude.{IsTrue, MatchOption, Result, if◌then◌else◌, is_none, nat_eq, nat_lt, slice_get, ℤ}
pub use Rattle.std.specs.Result.{IsErrAnd}
pub use Rattle.value_laws.proofs.EventPlaces.{events_are_found, number_fits}
pub use Rattle.value_laws.proofs.Fronts.{all_grow}
pub use Rattle.value_laws.specs.Numbers.{ChannelsFit, events_from, field_place, first_of, front_count, front_number, span}
pub use Rattle.value_laws.specs.Prelude.{IsSetValue}
pub use Rattle.value_operators.proofs.EventSteps.{stops_left}
pub use Rattle.value_operators.proofs.Faults.{at_err, passed, weaker}
pub use Rattle.value_operators.proofs.Held.{with_member}
pub use Rattle.value_operators.proofs.NameLaws.{with_bound-last}
pub use Rattle.value_operators.proofs.SetSteps.{limited_few}
pub use Rattle.value_operators.specs.Env.{env_in, parameters, with_bound}
pub use Rattle.value_operators.specs.Forms.{capped, count_with, each_of, nothing_yet, scaled}
pub use Rattle.value_operators.specs.Prelude.{EvalFault, Gives, a_set, gathered_set, inverse, named_set, negative, operation, produced}
