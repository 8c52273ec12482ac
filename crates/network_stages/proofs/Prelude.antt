-- What the proofs of this crate cite of the crates below, and of its own definitions.
pub use Rattle.csp_base.proofs.Rising.{has-with_member}
pub use Rattle.csp_base.proofs.Standard.{both_ways, cases_Bool, cases_eq, cases_lt, cond-false, cond-true, eqb-true, false≢true, get_or-append-add, get_or-append_right, get_or-append_seam, get_or-drop, get_or-eq_default, get_or-replicate, get_or-take, get_or_append_left, get_or_default, get_or_read, length-append, length-drop, length-replicate, length-take-le, length_push, list_any_at, list_any_more, none-some, or_cases, or_left, or_right, same_Some, slice_get-get_or, slice_get_within, take-suc, take_all}
pub use Rattle.csp_base.specs.Lists.{greatest}
pub use Rattle.csp_base.specs.Members.{has}
pub use Rattle.csp_base.specs.Prelude.{Tells, with_member}
pub use Rattle.csp_base.specs.declared.stop.Stop.{Stop}
pub use Rattle.csp_program.specs.declared.processes.Proc.{Proc}
pub use Rattle.csp_program.specs.declared.programs.Content.{Content}
pub use Rattle.csp_tables.proofs.Runs.{sharers_other, sharers_own}
pub use Rattle.csp_tables.specs.Network.{Tree}
pub use Rattle.csp_tables.specs.Part.{sharers}
pub use Rattle.csp_tables.specs.Prelude.{After, ArePartsOf, Component, ComponentStep, HasForm, HaveForm, IsAcceptance, IsBelow, IsBusy, IsBusyShape, IsLinked, IsNonEmpty, IsNormalTable, IsPartOf, IsReached, IsRun, IsShapeOf, IsSilentBound, IsTableOf, IsWellFormed, JoinsTwo, Label, Link, LinksAreOrdered, Meet, Node, Part, Path, RawStep, RawTable, Shape, SilentStep, Silently, TripleDisjoint, acceptances_after, alphabets_of, end_of, leaves, node_at, part_at, silent, standing_at}
pub use Rattle.csp_text.specs.declared.script.Script.{Script}
pub use Rattle.determinise.specs.ManySets.{ReachesSets}
pub use Rattle.digraph.specs.Prelude.{AreHeights, IsCircle, Leads, Walk}
pub use Rattle.dl_limits.specs.declared.TheConstants.{MOST_COMPONENTS, MOST_NODES, MOST_SETS, MOST_STEPS, MOST_TERMS}
pub use Rattle.local_tables.proofs.Excluding.{excluded}
pub use Rattle.local_tables.specs.Prelude.{AreSteps, AreTerms, IsLocalTable, Room}
pub use Rattle.local_tables.specs.declared.local_table.LocalTable.{LocalTable}
pub use Rattle.net_sound.proofs.FormOfTables.{shapes_are_well_formed, table_has_form}
pub use Rattle.net_sound.proofs.Heights.{heights_add_up, heights_are_exact}
pub use Rattle.net_sound.proofs.Normal.{normal_tables_carry_over, trace_down, trace_up}
pub use Rattle.net_sound.proofs.Numbered.{run_down, run_up, stands}
pub use Rattle.net_sound.proofs.Parts.{component_of, one_part_each, part_of}
pub use Rattle.net_sound.proofs.ShapeOf.{shapes_are_busy}
pub use Rattle.net_sound.proofs.Sharers.{at_three, at_two}
pub use Rattle.net_sound.proofs.Within.{part_form}
pub use Rattle.net_sound.specs.Heights.{HaveHeights, sum_of_greatest}
pub use Rattle.network_layout.specs.Lays.{AreSeats}
pub use Rattle.network_layout.specs.Triple.{alphabets}
pub use Rattle.network_stages.specs.Busy.{HasEmpty, IsBusyPart}
pub use Rattle.network_stages.specs.Prelude.{AreSeatsOf, AreTablesOf, AreTablesWithin, CanStop, ChosenComponent, FaultsExcludeAllTables, HasFault, HasManySets, HasNoNetwork, HasNoPart, HasParts, HasTable, HasTables, HaveFewSets, HaveFewSetsBefore, HaveNoParts, HaveNoTables, IsApart, IsSpelled, IsTableWithin, Network, PartCanStop, SpellsNone, StaysBusy, StopsFirst, StopsFirstIn, TellsRound, at_component, room_after, room_left, tree_in, whole_room}
unfoldable pub use Rattle.network_stages.specs.Prelude.{tree_at}
pub use Rattle.network_stages.specs.Rows.{AreLinksBefore, AreOwners, AreRows, HasLink, IsInRow, IsRow, IsSharedBy, IsVocabulary, Precedes, any_has_event, has_event, is_part, joint, joints, link_in, owner_of, row_at}
pub use Rattle.network_stages.specs.declared.component_tables.ComponentTable.{ComponentTable}
pub use Rattle.network_trees.proofs.InOrder.{network_is_tree}
pub use Rattle.network_trees.proofs.Sound.{walk_is_spelled}
pub use Rattle.network_trees.specs.NetworkOf.{network_of}
pub use Rattle.observed_runs.specs.Observed.{pair_at}
pub use Rattle.process_steps.specs.ComponentStep.{ProcessStep}
pub use Rattle.process_steps.specs.declared.component_fault.ComponentFault.{ComponentFault}
pub use Rattle.report.specs.declared.answer.Answer.{Answer}
pub use Rattle.report.specs.declared.answer.Shortfall.{Shortfall}
pub use Rattle.report.specs.declared.answer.Side.{Side}
pub use Rattle.report.specs.declared.answer.Refusal.{Refusal}
pub use Rattle.script_names.specs.Prelude.{IsProgram}
pub use Rattle.std.proofs.Common.{Bool, Err, IfErr, IsTrue, List, None, Ok, Option, Result, Some, [], add-one, ap, arith, cond, drop, eq-eqb, false, get_or, inl, inr, length, map, max, min, nat_eq, refl, replicate, slice_get, subst, suc, sym, take, true, vec_len, zero, ℕ, ◌*◌, ◌++◌, ◌+◌, ◌-◌, ◌<◌, ◌||◌, ◌∙◌, ◌∷◌, ◌≡◌, ◌≢◌, ◌≤◌}
pub use Rattle.std.proofs.lemmas.Result.{IfErr-weaker}
pub use Rattle.std.specs.Result.{OnOk}
