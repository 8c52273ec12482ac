-- What the proofs of this crate cite of the crates below, and of its own definitions.
pub use Rattle.csp_atoms.specs.declared.atom.Atom.{Atom}
pub use Rattle.csp_atoms.specs.declared.value.Value.TheVariants.{One}
pub use Rattle.csp_atoms.specs.declared.value.Value.{Value}
pub use Rattle.csp_base.proofs.Lists.{drop_read}
pub use Rattle.csp_base.proofs.Standard.{filter_more, map-append}
pub use Rattle.csp_program.proofs.Loops.{loops_give_all}
pub use Rattle.csp_program.specs.Prelude.{Env, IsInOrder, Outcome, and_then, event_table, front_events, joined, meanings, one_event, row_count, rows, sets_of, turn, uses_within, value_of, walked}
pub use Rattle.csp_program.specs.declared.programs.Channel.{Channel}
pub use Rattle.csp_program.specs.declared.programs.EventInfo.{EventInfo}
pub use Rattle.csp_program.specs.declared.expressions.Expr.TheOpen.{Expr-F}
pub use Rattle.csp_program.specs.declared.expressions.Gen.{Gen}
pub use Rattle.csp_program.specs.declared.expressions.EventPart.{EventPart, out-EventPart}
pub use Rattle.csp_program.specs.declared.expressions.Expr.TheVariants.{Lit}
pub use Rattle.csp_program.specs.declared.expressions.Expr.{Expr}
pub use Rattle.csp_program.specs.declared.kinds.ValueKind.TheVariants.{SetLimit}
pub use Rattle.csp_program.specs.declared.kinds.ValueKind.{ValueKind}
pub use Rattle.csp_program.specs.declared.programs.Content.{Content}
pub use Rattle.csp_values.proofs.Courses.{begun_under, binding_less, gathering_fault, gathering_next, over_begun, over_course, over_end, over_fault, size}
pub use Rattle.csp_values.proofs.Equations.{at, fronts_of, same_count}
pub use Rattle.csp_values.proofs.FieldSteps.{front_fits}
pub use Rattle.csp_values.specs.Course.{Course, GivesBinding, IsUnder, begun, course_under, faulty, skipped}
unfoldable pub use Rattle.csp_values.specs.Worth.{front_worth, worths}
pub use Rattle.csp_values.specs.declared.walk.Walk.{Walk}
pub use Rattle.dl_limits.specs.declared.TheConstants.{MOST_BINDINGS}
pub use Rattle.process_steps.specs.Needed.{all_outcomes, arguments_in}
pub use Rattle.process_steps.specs.Prelude.{Among, channel, event_of, event_with, of_channel, of_value, values_after}
pub use Rattle.process_steps.specs.Renaming.{Renamed, or_itself, pair_renamed, renaming_in}
pub use Rattle.process_steps.specs.Ways.{each_joined, event}
pub use Rattle.std.proofs.Common.{Bool, Err, List, Ok, Some, [], ap, append-nil, append_assoc, arith, cond, drop, drop_of_length-le, false, get_or, length, map, refl, slice_get, subst, suc, sym, take, true, zero, ℕ, ◌++◌, ◌+◌, ◌<◌, ◌^◌, ◌∙◌, ◌∷◌, ◌≡◌, ◌≤◌}
pub use Rattle.std.proofs.lemmas.List.{take_all}
pub use Rattle.std.specs.List.{filter}
pub use Rattle.std.specs.Map.{lookup}
pub use Rattle.std.specs.Prelude.{Result, nat_eq, nat_lt}
pub use Rattle.std.specs.Result.{IsErrAnd}
pub use Rattle.step_values.specs.Images.{events_or_none, kept_for, named_for}
pub use Rattle.step_values.specs.Starts.{GivesStart, IsStart}
pub use Rattle.step_values.specs.Walked.{Gathering, GivesTally, as_event, binding_renamed, gathering_of, literals, new_event, pairs_renamed, renamed_as}
unfoldable pub use Rattle.step_values.specs.Walked.{pair_walked, renamed_walk}
pub use Rattle.step_values.specs.declared.heads.Start.{Start}
pub use Rattle.step_values.specs.declared.renaming.Tally.{Tally}
pub use Rattle.value_laws.proofs.EventPlaces.{event_of_row, number_fits}
pub use Rattle.value_laws.proofs.Fits.{program_fits}
pub use Rattle.value_laws.proofs.Fronts.{has_sets}
pub use Rattle.value_laws.proofs.ProgramEvents.{table_from_sets}
pub use Rattle.value_laws.specs.Numbers.{first_of, front_count, front_number, span}
pub use Rattle.value_operators.proofs.Faults.{at_err, passed, weaker}
pub use Rattle.value_operators.specs.Env.{with_bound}
pub use Rattle.value_operators.specs.Prelude.{EvalFault, Gives, count_with}
