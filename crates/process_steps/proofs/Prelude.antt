-- What the proofs of this crate cite of the crates below, and of its own definitions.
pub use Rattle.csp_atoms.specs.declared.atom.Atom.{Atom}
pub use Rattle.csp_atoms.specs.declared.value.Value.TheVariants.{One}
pub use Rattle.csp_base.specs.Lists.{StandsIn, greatest}
pub use Rattle.csp_base.specs.Members.{has}
pub use Rattle.csp_program.specs.Prelude.{Env, Outcome, and_then, given_by, in_field, joined, one, proc_depth, proc_depth_of_layer, proc_with, sets_of}
pub use Rattle.csp_program.specs.declared.expressions.EventPart.{EventPart}
pub use Rattle.csp_program.specs.declared.expressions.Expr.{Expr}
pub use Rattle.csp_program.specs.declared.expressions.Gen.{Gen}
pub use Rattle.csp_program.specs.declared.processes.Field.{Field}
pub use Rattle.csp_program.specs.declared.processes.Head.{Head}
pub use Rattle.csp_program.specs.declared.processes.Proc.TheFolds.{fold-roll-Proc, map-Proc}
pub use Rattle.csp_program.specs.declared.processes.Proc.TheOpen.{Proc-F}
pub use Rattle.csp_program.specs.declared.processes.Proc.TheViews.{out-Proc, out-roll-Proc, roll-Proc, roll-out-Proc}
pub use Rattle.csp_program.specs.declared.processes.Proc.{Proc}
pub use Rattle.csp_program.specs.declared.programs.Content.{Content}
pub use Rattle.process_steps.specs.Ways.{each_joined}
pub use Rattle.process_steps.specs.Prelude.{FieldsLackNone, Fills, Move, Renamed, Step, Way, arguments_in, call, called, channel, each_external, each_internal, each_put, event, event_among, event_of, events_in, external_event, external_silent, external_tick, filled, given_under, guard, hide_hidden, hide_seen, hide_silent, hide_tick, if_false, if_true, images, in_choice, in_hiding, in_renaming, in_sequence, input, internal, is_given, none, of_channel, output, prefix, rename_event, rename_silent, rename_tick, renaming_in, sequence_event, sequence_silent, sequence_tick, set_in, sets_among, silent_to, skip, some_silent_to, steps_of_choice, steps_of_layer, truth_in, value_under, ways_to_fill}
unfoldable pub use Rattle.process_steps.specs.Prelude.{steps_of, steps_within}
pub use Rattle.process_steps.specs.declared.label.Label.TheVariants.{Silent, Tick, Visible}
pub use Rattle.process_steps.specs.declared.label.Label.{Label}
pub use Rattle.std.proofs.Common.{Bool, Err, IfOk, IsOkAnd, IsTrue, List, None, Ok, Option, Some, [], ap, arith, false, if◌then◌else◌, inl, inr, map, refl, slice_get, subst, suc, sym, true, zero, ℕ, ◌++◌, ◌+◌, ◌<◌, ◌∙◌, ◌∷◌, ◌≡◌, ◌≤◌, ◌⊎◌}
pub use Rattle.substitution.proofs.Keeps.{proc_keeps_depth}
pub use Rattle.substitution.proofs.Stays.{proc_stays}
