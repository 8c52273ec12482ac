-- What the proofs of this crate cite of the crates below, and of its own definitions.
pub use Rattle.csp_base.proofs.Standard.{append-nil, length-take-le, take-suc}
pub use Rattle.report.specs.EventText.{event_text, field_text}
pub use Rattle.report.specs.Lines.{more_events_text, numbers_text, set_text, trace_text}
pub use Rattle.report.specs.Parts.{part_text, parts_text, text_and}
pub use Rattle.report.specs.Report.{accept_text, move_text, next_text, node_text, nodes_text}
pub use Rattle.std.proofs.Common.{Err, List, Ok, OnOk, Result, [], add-one, ap, append_assoc, arith, get_or, length, refl, sym, take, ℕ, ◌%◌, ◌++◌, ◌+◌, ◌/◌, ◌<◌, ◌^◌, ◌∙◌, ◌∷◌, ◌≡◌, ◌≤◌}
pub use Rattle.std.specs.List.{flat_map}
pub use Rattle.std.specs.Prelude.{decimal}
