-- What the proofs of this crate cite of the crates below, and of its own definitions.
pub use Rattle.csp_base.proofs.Lists.{flat_map_push}
pub use Rattle.csp_base.specs.Prelude.{Tells, natural}
pub use Rattle.csp_base.specs.Standard.{Global}
pub use Rattle.csp_program.specs.Prelude.{Outcome, and_then}
pub use Rattle.csp_program.specs.declared.programs.Content.{Content}
pub use Rattle.csp_program.specs.declared.kinds.ValueKind.{ValueKind}
pub use Rattle.csp_program.specs.declared.processes.Proc.{Proc}
pub use Rattle.csp_tables.specs.Prelude.{ArePartsOf, Component, Falls, Fits, IsGoodRanking, IsGreatestSilence, IsShapeOf, IsSilentBound, IsWellFormed, Label, Part, PartRanks, Ranking, Shape, Tree, TripleDisjoint, alphabets_of, leaves, part_at}
pub use Rattle.csp_tables.specs.declared.rule.Rule.TheVariants.{ClientServer, Cyclic, Resource}
pub use Rattle.csp_tables.specs.declared.rule.Rule.{Rule}
pub use Rattle.csp_text.specs.declared.script.Decl.{Decl}
pub use Rattle.csp_text.specs.declared.script.Script.{Script}
pub use Rattle.design_rules.proofs.GreatestRanks.{rankings_have_greatest_rank}
pub use Rattle.design_rules.proofs.ClientServer.{client_server_ranks_fall}
pub use Rattle.design_rules.proofs.CyclicRule.{cyclic_ranks_fall}
pub use Rattle.design_rules.proofs.Readings.{networks_break, networks_meet}
pub use Rattle.design_rules.proofs.Resource.{resource_ranks_fall}
pub use Rattle.design_rules.specs.Prelude.{HasNotes, Ranks}
pub use Rattle.design_rules.specs.declared.rule_fault.RuleFault.{RuleFault}
pub use Rattle.design_rules.specs.RankCounts.{greatest_from, greatest_rank}
pub use Rattle.design_rules.specs.declared.noted_rule.NotedRule.{NotedRule}
pub use Rattle.dl_limits.specs.declared.TheConstants.{MOST_COMPONENTS, MOST_SETS}
pub use Rattle.judgement.specs.Counts.{node_count}
pub use Rattle.judgement.specs.Heart.{IsProved, bound_of}
unfoldable pub use Rattle.judgement.specs.Judged.{IsJudged, RuleDecides}
pub use Rattle.judgement.specs.Laws.{EachScriptHasOneNetwork}
pub use Rattle.judgement.specs.Noted.{Breaks, HasUntold, Meets, Notes}
pub use Rattle.net_sound.proofs.FormOfTables.{shapes_are_well_formed}
pub use Rattle.net_sound.proofs.Parts.{one_part_each}
pub use Rattle.net_sound.proofs.ShapeOf.{shapes_behave}
pub use Rattle.net_sound.proofs.Soundness.{good_rankings_mean_live}
pub use Rattle.net_sound.specs.Soundness.{IsSound}
pub use Rattle.network_layout.specs.Told.{IsUntold}
pub use Rattle.network_layout.specs.declared.told.NotedFault.{NotedFault}
pub use Rattle.network_stages.proofs.HeightSums.{bound_is}
pub use Rattle.network_stages.proofs.Shaping.{parts_apart}
pub use Rattle.network_stages.specs.Networks.{Network}
pub use Rattle.network_stages.specs.Prelude.{AreSeatsOf, HasSilentBound, HasTables, IsApart, IsLive, IsSpelled, StaysBusy, network_at, tree_in}
unfoldable pub use Rattle.network_stages.specs.Prelude.{tree_at}
pub use Rattle.network_stages.specs.declared.component_tables.ComponentTable.{ComponentTable}
pub use Rattle.network_trees.proofs.Complete.{spelled_is_walked}
pub use Rattle.network_trees.proofs.InOrder.{network_is_tree}
pub use Rattle.network_trees.specs.NetworkOf.{Walked, network_of}
pub use Rattle.process_steps.specs.ComponentStep.{ProcessStep}
pub use Rattle.process_steps.specs.Prelude.{all_outcomes}
pub use Rattle.report.proofs.Points.{at_refusal, at_shortfall, exits, goes_on}
pub use Rattle.report.specs.Prelude.{Answers, passed}
pub use Rattle.report.specs.declared.answer.Refusal.{Refusal}
pub use Rattle.script_names.specs.Prelude.{Answer, AreKinds, HasClass, IsKind, IsProgram, LeadsTo, beyond, ends_at, first_ends, here, resolved, script_ends}
pub use Rattle.script_names.specs.declared.kinds.Class.{Class}
pub use Rattle.script_names.specs.declared.kinds.Kind.{Kind}
pub use Rattle.script_names.specs.declared.kinds.End.{End}
pub use Rattle.std.proofs.Common.{Bool, Err, IsTrue, List, None, Ok, Option, Some, Vec, [], add-one, ap, arith, false, get_or, length, map, max, pos, refl, rules, slice_get, subst, suc, sym, take, true, zero, ℕ, ℤ, ◌*◌, ◌++◌, ◌+◌, ◌<◌, ◌^◌, ◌∙◌, ◌∷◌, ◌≡◌, ◌≤◌}
pub use Rattle.std.proofs.Math.Seq.{take-suc}
pub use Rattle.std.proofs.lemmas.List.{take_all}
pub use Rattle.std.proofs.lemmas.Option.{none-some, same_Some, slice_get-map}
pub use Rattle.std.specs.List.{flat_map}
pub use Rattle.std.specs.Option.{option_map}
pub use Rattle.typed_laws.proofs.Programs.{program_resolves}
