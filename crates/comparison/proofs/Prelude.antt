-- What the proofs of this crate cite of the crates below, and of its own definitions.
pub use Rattle.comparison.specs.Agreement.{AgreeAt, DifferFirstAt, HaveSameNames, printed_events}
unfoldable pub use Rattle.comparison.specs.Compared.{ConformanceDecides, IsCompared, PartsOr}
pub use Rattle.comparison.specs.Compared.{IsConforming}
pub use Rattle.comparison.specs.Complete.{ComparisonIsExact, IsWithinLimits, Matches}
pub use Rattle.comparison.specs.Conforming.{ComponentsConform, ConformBefore, FailsToConform, HaveSameEvents, StandsFirst, failure}
pub use Rattle.conformance.proofs.Inheriting.{conforming_networks_are_live}
pub use Rattle.conformance.proofs.Telling.{faults_refute, tables_tell}
pub use Rattle.conformance.specs.Conforming.{TableConforms}
pub use Rattle.conformance.specs.Conforms.{AllConform, Conforms}
pub use Rattle.conformance.specs.Told.{Fails}
pub use Rattle.conformance.specs.declared.fault.ConformFault.{ConformFault}
pub use Rattle.containers.specs.Exact.{IsExact-pointwise}
pub use Rattle.csp_atoms.specs.Exact.{exact_set}
pub use Rattle.csp_atoms.specs.declared.atom.Atom.{Atom}
pub use Rattle.csp_base.proofs.Standard.{cases_lt, eqb-true, false≢true, get_or_read, length-map, same_Some, slice_get-get_or, slice_get-map, slice_get_past}
pub use Rattle.csp_base.specs.declared.stop.Stop.{Stop}
pub use Rattle.csp_base.specs.Standard.{bytes_decides, flat_map, option_map}
pub use Rattle.csp_base.specs.Stops.{Tells}
pub use Rattle.csp_program.specs.declared.programs.Channel.{Channel}
pub use Rattle.csp_program.specs.declared.programs.EventInfo.{EventInfo}
pub use Rattle.csp_program.specs.declared.processes.Proc.{Proc}
pub use Rattle.csp_program.specs.declared.programs.Content.{Content}
pub use Rattle.csp_tables.specs.Prelude.{Component, HasForm, HaveForm, IsPartOf, Label, Part, leaves, part_at}
pub use Rattle.net_sound.proofs.Parts.{component_of, one_part_each, part_of, part_within}
pub use Rattle.net_sound.proofs.Within.{part_form}
pub use Rattle.network_layout.specs.Triple.{alphabets}
pub use Rattle.network_stages.proofs.Excluded.{faults_exclude_tables}
pub use Rattle.network_stages.specs.Prelude.{HasNoParts, HasParts, HasSilentBound, HasTables, HaveFewSets, IsLive, IsSpelled, Network}
pub use Rattle.network_stages.specs.declared.component_tables.ComponentTable.{ComponentTable}
pub use Rattle.network_trees.proofs.InOrder.{network_is_tree}
pub use Rattle.process_steps.specs.ComponentStep.{ProcessStep}
pub use Rattle.report.proofs.Points.{at_halt, at_refusal, at_shortfall, goes_on, halts_weaker}
pub use Rattle.report.specs.EventText.{field_text, text_or_none}
pub use Rattle.report.specs.Prelude.{Answers, HaltsWith, Point, channel_name, info_text, passed, told, verdict_status}
pub use Rattle.report.specs.declared.stop.Halt.{Halt}
pub use Rattle.report.specs.declared.answer.Refusal.{Refusal}
pub use Rattle.report.specs.declared.answer.Shortfall.{Shortfall}
pub use Rattle.report.specs.declared.answer.Done.{Done}
pub use Rattle.report.specs.declared.answer.Side.{Side}
pub use Rattle.report.specs.declared.answer.Verdict.{Verdict}
pub use Rattle.std.proofs.Common.{Bool, Err, List, MatchBool, None, Option, Result, Some, [], ap, ap₂, arith, false, get_or, inl, inr, length, nat_eq, refl, rules, subst, suc, sym, true, zero, ℕ, ◌++◌, ◌+◌, ◌<◌, ◌↔◌, ◌∙◌, ◌∷◌, ◌≡◌, ◌≤◌}
pub use Rattle.std.proofs.lemmas.Option.{none-some, slice_get_within}
pub use Rattle.std.specs.Cmp.Lexicographic.{pointwise}
pub use Rattle.std.specs.Prelude.{codes, slice_get}
pub use Rattle.std.specs.Result.{IsErrAnd}
