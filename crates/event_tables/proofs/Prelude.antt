-- What other libraries give, under one name for the files here.
pub use Rattle.csp_atoms.specs.declared.atom.Atom.{Atom}
pub use Rattle.csp_base.proofs.Lists.{drop_read}
pub use Rattle.csp_base.proofs.Standard.{append-nil, drop_of_length-le, get_or_from_slice_get, map-append, slice_get_past, slice_get_read, slice_get_within, sum_by-cons}
pub use Rattle.csp_base.specs.Standard.{Bor, IsErrAnd, IsItemAt, option_copied}
pub use Rattle.csp_program.specs.Prelude.{Outcome, all_true, and_then, channel_events, event_of, event_table, events_from_channel, joined, row_count, rows, value_of}
pub use Rattle.csp_program.specs.declared.programs.Content.{Content}
pub use Rattle.csp_program.specs.declared.programs.EventInfo.{EventInfo}
pub use Rattle.csp_program.specs.declared.expressions.Expr.{Expr}
pub use Rattle.csp_program.specs.declared.kinds.ValueKind.{ValueKind}
pub use Rattle.csp_program.specs.declared.programs.Channel.{Channel}
pub use Rattle.dl_limits.specs.declared.TheConstants.{MOST_BYTES}
pub use Rattle.event_tables.specs.Spread.{GivesOneMore, events_left, extended, lent, spread}
pub use Rattle.event_tables.specs.declared.sets.SharedSets.{SharedSets}
pub use Rattle.script_names.specs.Resolved.{all_events, field_set, field_sets, may_be_field, with_sets}
pub use Rattle.std.proofs.Common.{Err, List, Ok, [], add-one, ap, append_assoc, arith, drop, get_or, length, length-append, map, min, refl, replicate, subst, suc, sym, take, zero, ℕ, ◌*◌, ◌++◌, ◌+◌, ◌-◌, ◌<◌, ◌^◌, ◌∙◌, ◌∷◌, ◌≡◌, ◌≤◌}
pub use Rattle.std.specs.Prelude.{IfOk, None, OnOk, Option, Result, Some, slice_get}
pub use Rattle.std.specs.Vec.Iter.{into_iter_items, into_iter_len}
pub use Rattle.value_operators.proofs.Faults.{at_err, weaker}
pub use Rattle.value_operators.specs.Prelude.{EvalFault, Gives}
