-- What the proofs of this crate cite of the crates below, and of its own definitions.
pub use Rattle.containers.proofs.MembersLemmas.{slice_get-append_left}
pub use Rattle.containers.specs.Members.{with_new}
pub use Rattle.csp_atoms.proofs.SearchLaws.{has_place}
pub use Rattle.csp_atoms.specs.Prelude.{has_atom, place_of}
pub use Rattle.csp_atoms.specs.declared.atom.Atom.{Atom}
pub use Rattle.csp_atoms.specs.declared.value.Value.TheVariants.{Many, One}
pub use Rattle.csp_atoms.specs.declared.value.Value.{Value}
pub use Rattle.csp_base.proofs.Lists.{map_push, slice_get_last, take_read}
pub use Rattle.csp_base.proofs.Results.{made_then}
pub use Rattle.csp_base.proofs.Standard.{and_from, any_passes_from_place, false≢true, get_or-map, get_or_from_slice_get, length-map, lt-ltb, map-append, map-set, slice_get-get_or, slice_get_within, take_all}
pub use Rattle.csp_base.specs.Lists.{EachOnce, StandsIn, greatest}
pub use Rattle.csp_base.specs.Prelude.{has}
pub use Rattle.csp_base.specs.Standard.{HashMap, IsEmpty, Updates, get, lookup}
pub use Rattle.csp_program.specs.Prelude.{Env, Outcome, and_then, bound_to, given_by, in_field, joined, one, proc_depth, proc_with, row_count, rows}
pub use Rattle.csp_program.specs.declared.programs.Body.{Body}
pub use Rattle.csp_program.specs.declared.programs.Def.{Def}
pub use Rattle.csp_program.specs.declared.processes.Head.{Head}
pub use Rattle.csp_program.specs.declared.processes.Proc.TheViews.{out-Proc, out-roll-Proc, roll-Proc}
pub use Rattle.csp_program.specs.declared.expressions.EventPart.{EventPart}
pub use Rattle.csp_program.specs.declared.expressions.Expr.{Expr}
pub use Rattle.csp_program.specs.declared.expressions.Gen.{Gen}
pub use Rattle.csp_program.specs.declared.kinds.ValueKind.TheVariants.{EmptyChoice, Kind, OutsideChannel}
pub use Rattle.csp_program.specs.declared.kinds.ValueKind.{ValueKind}
pub use Rattle.csp_program.specs.declared.processes.Field.{Field}
pub use Rattle.csp_program.specs.declared.processes.Proc.TheOpen.{Proc-F}
pub use Rattle.csp_program.specs.declared.processes.Proc.{Proc}
pub use Rattle.csp_program.specs.declared.programs.Content.{Content}
pub use Rattle.csp_steps.specs.Computed.{GivesLook}
pub use Rattle.csp_steps.specs.Prelude.{Answers, AreAdded, AreAround, AreAt, AreBodies, AreEach, AreFirsts, AreFirstsAfter, AreKept, AreMoves, AreNoted, AreOfChoice, AreSets, AreStepsOf, AreTargets, AreThoseAt, Does, Effect, FaultIs, Fits, GivesEach, GivesMoves, AreNested, BindsNames, HasGone, HasNumber, HasSet, HasTurned, HasValue, IsAfter, IsBegun, IsListing, IsLonger, IsLook, IsMove, IsNumbered, IsPlaceOf, IsSound, IsTaken, IsTurned, IsUnder, IsWithin, StandsAs, Way, again, all_moves, all_within, around, body_of, effect_as, effect_of, effect_of_layer, eq_step, filled, first, frames_weight, goals, hidden_labels, input_ways, is_blocked, is_by, labels_by, last_by, laws-law, moves_of, name_of, none, process_body, renamed_labels, seen, then_ways, turn_ways, turned_ways, turned_weight, value_in, values_left, values_weight, walk_moves, walk_ways, walk_weight, way_move, ways_by_number, weight}
unfoldable pub use Rattle.csp_steps.specs.Prelude.{frames_left}
pub use Rattle.csp_steps.specs.Walked.{GivesNext, nth_event, number_from, number_of, number_with, number_with_value}
pub use Rattle.csp_steps.specs.declared.around.Round.{Round}
pub use Rattle.csp_steps.specs.declared.evaluated.Evaluated.{Evaluated}
pub use Rattle.csp_steps.specs.declared.fields.Next.{Next}
pub use Rattle.csp_steps.specs.declared.look.Look.{Look}
pub use Rattle.csp_steps.specs.declared.operator.Operator.{Operator}
pub use Rattle.csp_steps.specs.declared.sets.Sets.{Sets}
pub use Rattle.csp_steps.specs.declared.step.StepTo.{StepTo}
pub use Rattle.csp_steps.specs.declared.walk.FieldValue.{FieldValue}
pub use Rattle.csp_steps.specs.declared.walk.Frame.{Frame}
pub use Rattle.csp_steps.specs.declared.walk.Input.{Input}
pub use Rattle.csp_steps.specs.declared.walk.Turn.{Turn}
pub use Rattle.csp_steps.specs.declared.walk.Walk.{Walk}
pub use Rattle.csp_tables.specs.Prelude.{silent, visible}
pub use Rattle.pool_parts.specs.declared.place.ProcId.{ProcId}
pub use Rattle.process_steps.proofs.Depths.{depth_of, put_depths, steps_of_form}
unfoldable pub use Rattle.process_steps.proofs.Depths.{layer_depth}
pub use Rattle.process_steps.proofs.Listed.{lists_are}
pub use Rattle.process_steps.proofs.Members.{at_place, from_map, in_either, in_left, in_map, in_right, placed}
pub use Rattle.process_steps.specs.Needed.{called, process_of}
pub use Rattle.process_steps.specs.Prelude.{Among, Move, ProcessStep, Renamed, arguments_in, each_joined, each_put, event_among, events_in, given_under, images, in_choice, in_hiding, in_renaming, in_sequence, is_given, of_head, renaming_in, set_in, sets_among, silent_to, some_silent_to, steps_of_choice, truth_in, value_under, ways_to_fill, where_given}
pub use Rattle.process_steps.specs.StepList.{steps_of}
pub use Rattle.process_steps.specs.declared.label.Label.TheVariants.{Silent, Tick, Visible}
pub use Rattle.process_steps.specs.declared.label.Label.{Label}
pub use Rattle.std.proofs.Common.{Bool, Err, List, None, Ok, Option, Some, [], ap, append-nil, append_assoc, arith, cond, drop, eq-eqb, false, get_or, if◌then◌else◌, inl, inr, length, map, nat_eq, not, refl, slice_get, slice_set, subst, suc, sym, take, true, zero, ℕ, ◌*◌, ◌++◌, ◌+◌, ◌<◌, ◌^◌, ◌∙◌, ◌∷◌, ◌≡◌, ◌≤◌, ◌⊎◌}
pub use Rattle.std.proofs.lemmas.Bool.{eqb-true, ltb-true}
pub use Rattle.std.proofs.lemmas.List.{length-take, length-take-le, length_push, nil_from_length, take-append-le, take-take}
pub use Rattle.std.proofs.lemmas.Result.{IfOk-weaker}
pub use Rattle.std.specs.Cmp.{first_so, second_so}
pub use Rattle.std.specs.Option.{option_copied}
pub use Rattle.std.specs.Prelude.{IfOk, IfSome, OnOk, Result, is_some, nat_lt}
pub use Rattle.std.specs.Result.{IsErrAnd}
pub use Rattle.std.specs.Set.{is_member}
pub use Rattle.step_values.proofs.Lists.{joined_push, left, left_all, left_end, left_fault, left_next}
pub use Rattle.step_values.specs.Images.{KeepsOutcome, becomes}
pub use Rattle.step_values.specs.Starts.{GivesStart, IsStart}
pub use Rattle.step_values.specs.declared.heads.Start.{Start}
pub use Rattle.step_values.specs.declared.images.Images.{Images}
pub use Rattle.term_pool.proofs.NodeLemmas.{layer_of, layer_out}
pub use Rattle.term_pool.proofs.PutLemmas.{at}
pub use Rattle.term_pool.proofs.TreeLemmas.{all_below_more}
pub use Rattle.term_pool.specs.Prelude.{AreDifferent, IsFront, all_below, id_or, layer_with_first, places, places_below, shown, tree_of}
unfoldable pub use Rattle.term_pool.specs.Prelude.{with_first}
pub use Rattle.term_pool.specs.Trees.{tree_at}
pub use Rattle.term_pool.specs.declared.node.Node.{Node}
pub use Rattle.value_laws.proofs.RowNumbers.{field_found, length-rows, to_rows}
pub use Rattle.value_laws.specs.Prelude.{field_place, found_place}
pub use Rattle.value_operators.proofs.Faults.{at_err, weaker}
pub use Rattle.value_operators.proofs.NameLaws.{with_bound-last}
pub use Rattle.value_operators.specs.Env.{with_bound}
pub use Rattle.value_operators.specs.Prelude.{EvalFault, Gives, IsFault}
