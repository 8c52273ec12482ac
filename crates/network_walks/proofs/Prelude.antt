-- What the proofs of this crate cite of the crates below, and of its own definitions.
pub use Rattle.csp_base.proofs.Booleans.{same_tests}
pub use Rattle.csp_base.proofs.Lists.{drop_read}
pub use Rattle.csp_base.proofs.Standard.{MatchBool-at_false, MatchBool-at_true, append-nil, cases_Bool, drop_all, eqb-true, length-map, none-some, same_Some, slice_get-map}
pub use Rattle.csp_base.specs.Members.{has}
pub use Rattle.csp_base.specs.Prelude.{StandsIn}
pub use Rattle.csp_base.specs.Standard.{option_map}
pub use Rattle.csp_program.specs.declared.programs.Content.{Content}
pub use Rattle.csp_program.specs.declared.processes.Proc.{Proc}
pub use Rattle.csp_steps.proofs.Targets.{targets_one}
pub use Rattle.csp_steps.specs.Order.{AreTargets}
pub use Rattle.csp_tables.specs.Prelude.{AllTakePart, Component, ComponentStep, IsTableOf, Label, NetworkStep, OneMoves, Path, RawStep, RawTable, Tree, WellNested, in_some_component, leaves, silent, standing_at, targets_in, visible}
pub use Rattle.local_tables.specs.Prelude.{IsInside, Room}
pub use Rattle.net_sound.proofs.FlatLists.{match_false, match_true, step_alphabet}
pub use Rattle.net_sound.proofs.Flattening.{back, forth, kept}
pub use Rattle.net_sound.proofs.Numbered.{stands}
pub use Rattle.net_sound.proofs.Shape.{steps_are_told}
pub use Rattle.network_stages.proofs.Tabling.{as_many, placed, still_within}
pub use Rattle.network_stages.specs.Prelude.{AreTablesOf, AreTablesWithin, HasTable, HasTables, IsSpelled, Network, room_after, whole_room}
pub use Rattle.network_stages.specs.declared.component_tables.ComponentTable.{ComponentTable}
pub use Rattle.network_trees.proofs.InOrder.{network_is_tree}
pub use Rattle.network_walks.specs.Draws.{AreDrawn, DrawsTarget}
pub use Rattle.network_walks.specs.Laws.{AreOneWalk, NoMoveMeansStuck, StuckIsNotLive, StuckWalksRefuteLive, TheWalkIsOne, WalksAreRuns}
pub use Rattle.network_walks.specs.Moves.{Goes, Has, Takes}
pub use Rattle.network_walks.specs.Tabled.{numbered, one_numbered}
pub use Rattle.network_walks.specs.Walked.{IsNetworkWalk, TellsWalk, walk_verdict}
unfoldable pub use Rattle.network_walks.specs.Walked.{IsWalked}
pub use Rattle.numbered_walks.specs.Numbered.{OwnsItsSteps, has_owner}
pub use Rattle.numbered_walks.specs.Prelude.{AllCan, AllDo, AllDraw, AreOptions, Can, Chooses, HasNone, IsBefore, IsDrawn, IsWalk, IsWalkOf, Numbered, first_draw, first_terms, label, next_number, place_among, takes_part}
pub use Rattle.numbered_walks.specs.declared.moves.Move.{Move}
pub use Rattle.process_steps.specs.ComponentStep.{ProcessStep}
pub use Rattle.report.proofs.Points.{at_refusal, at_want, goes_on}
pub use Rattle.report.specs.Prelude.{Answers}
pub use Rattle.report.specs.declared.stop.Halt.{Halt}
pub use Rattle.report.specs.declared.answer.Done.{Done}
pub use Rattle.std.proofs.Common.{Bool, Err, IsTrue, List, MatchBool, Ok, Result, Some, [], ap, append_assoc, ap₂, arith, drop, get_or, inl, inr, length, map, nat_eq, refl, rules, set, slice_get, subst, suc, sym, true, zero, ℕ, ◌++◌, ◌+◌, ◌<◌, ◌||◌, ◌↔◌, ◌∙◌, ◌∷◌, ◌≡◌, ◌≤◌, ◌⊎◌}
pub use Rattle.std.proofs.lemmas.Option.{slice_get_within}
