-- What the proofs of this crate cite of the crates below, and of its own definitions.
pub use Rattle.csp_base.proofs.Standard.{cases_lt, length-take, same_Some, slice_get_within}
pub use Rattle.csp_program.specs.declared.programs.Content.{Content}
pub use Rattle.csp_program.specs.declared.processes.Proc.{Proc}
pub use Rattle.csp_tables.specs.Prelude.{ArePartsOf, Component, ComponentStep, HasForm, HaveForm, IsPartOf, IsReached, IsRun, IsShapeOf, Label, Node, Part, Reached, Shape, Tree, TripleDisjoint, end_of, leaves, sharers, standing_at}
pub use Rattle.csp_tables.specs.declared.rule.Rule.{Rule}
pub use Rattle.design_rules.proofs.Readings.{network_faults_refute}
pub use Rattle.design_rules.proofs.Runs.{end_within}
pub use Rattle.design_rules.specs.declared.rule_fault.RuleFault.{RuleFault}
pub use Rattle.design_rules.specs.declared.noted_rule.NotedRule.{NotedRule}
pub use Rattle.judgement.proofs.KindsUnique.{kinds_are_unique}
pub use Rattle.judgement.proofs.Notes.{all_told, same_ok}
pub use Rattle.judgement.proofs.OneNetwork.{one_network, one_program}
pub use Rattle.judgement.specs.Counts.{node_count}
pub use Rattle.judgement.specs.Judged.{IsDeadlockFree}
unfoldable pub use Rattle.judgement.specs.Judged.{IsJudged, RuleDecides}
pub use Rattle.judgement.specs.Noted.{Breaks, Meets, Notes, notes_of}
pub use Rattle.judgement_laws.specs.Classes.{HasClasses, HaveClasses}
pub use Rattle.judgement_laws.specs.Complete.{EachScriptHasOneStatus, JudgementIsExact, Passes}
pub use Rattle.judgement_laws.specs.Flat.{NetworksAreFlat}
pub use Rattle.judgement_laws.specs.Lasting.{AllGoOn, GoesOn}
pub use Rattle.judgement_laws.specs.Laws.{FaultsExcludeNetworks}
pub use Rattle.judgement_laws.specs.Ranked.{HasGreatestRank}
pub use Rattle.local_tables.proofs.Excluding.{listed_of}
pub use Rattle.local_tables.specs.Prelude.{IsLocalTable, Room}
pub use Rattle.local_tables.specs.declared.local_table.LocalTable.{LocalTable}
pub use Rattle.net_sound.proofs.Flattening.{flat_steps_are_tree_steps, tree_steps_are_flat}
pub use Rattle.net_sound.proofs.FormOfTables.{shapes_are_well_formed}
pub use Rattle.net_sound.proofs.Local.{run_kept}
pub use Rattle.net_sound.proofs.Numbered.{stands}
pub use Rattle.net_sound.proofs.Soundness.{path_alphabet}
pub use Rattle.network_layout.proofs.Triples.{length-holders}
pub use Rattle.network_layout.specs.Triple.{alphabets, holders}
pub use Rattle.network_stages.proofs.Excluded.{faults_exclude_tables}
pub use Rattle.network_stages.specs.Prelude.{AreTablesOf, AreTablesWithin, CanStop, HasNoParts, HasTable, HasTables, HaveFewSets, IsApart, IsTableWithin, Network, ShareEvent, StaysBusy, room_after, whole_room}
pub use Rattle.network_stages.specs.declared.component_tables.ComponentTable.{ComponentTable}
pub use Rattle.network_trees.proofs.Complete.{spelled_is_walked}
pub use Rattle.network_trees.proofs.InOrder.{network_is_tree}
pub use Rattle.network_trees.specs.NetworkOf.{network_of}
pub use Rattle.process_steps.specs.ComponentStep.{ProcessStep}
pub use Rattle.report.proofs.Points.{refused_or, unproved_or}
pub use Rattle.report.specs.Prelude.{Point, UnprovedUnless, passed, told, verdict_status}
pub use Rattle.report.specs.declared.answer.Refusal.{Refusal}
pub use Rattle.report.specs.declared.answer.Shortfall.{Shortfall}
pub use Rattle.report.specs.declared.answer.Verdict.{Verdict}
pub use Rattle.script_names.specs.Prelude.{resolved}
pub use Rattle.std.proofs.Common.{Err, List, Ok, Result, Some, [], ap, arith, inl, inr, length, refl, slice_get, subst, suc, sym, take, zero, ℕ, ◌+◌, ◌<◌, ◌∙◌, ◌∷◌, ◌≡◌, ◌≤◌, ◌⊎◌}
pub use Rattle.std.proofs.lemmas.Option.{none-some}
pub use Rattle.std.specs.Prelude.{min, pos}
pub use Rattle.typed_laws.proofs.Programs.{program_resolves}
