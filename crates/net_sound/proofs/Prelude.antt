-- What the proofs of this crate cite of the crates below, and of its own definitions.
pub use Rattle.csp_base.proofs.Booleans.{or_none, or_regroup}
pub use Rattle.csp_base.proofs.Lists.{slice_get_some}
pub use Rattle.csp_base.proofs.Rising.{RisesFrom, rises_from_increasing}
pub use Rattle.csp_base.proofs.Standard.{and_from, and_parts, by_lt_z, cases_eq, cases_lt, eqb-true, false≢true, get_or-eq_default, get_or_from_slice_get, ints, none-some, or_cases, or_left, or_right, slice_get_within}
pub use Rattle.csp_base.specs.Members.{has}
pub use Rattle.csp_base.specs.Prelude.{greatest}
pub use Rattle.csp_tables.proofs.Runs.{run_push}
pub use Rattle.csp_tables.proofs.SilentPaths.{path_silent, silent_path}
pub use Rattle.csp_tables.specs.Prelude.{After, AllStand, AllTakePart, AllTogether, AreApart, AreBusy, ArePartsOf, AreWithin, BeginsAbove, Component, ComponentStep, Falls, FlatStep, Follows, HasBehaviour, HasForm, HaveBehaviours, HaveForm, HaveSameFuture, IsAcceptance, IsAgreed, IsBusy, IsGoodRanking, IsGreatestSilence, IsNonEmpty, IsNormalTable, IsPartOf, IsReached, IsRisingNode, IsShared, IsSilentBound, IsStableOffer, IsTableOf, IsTrace, IsUngranted, IsWithin, Label, Meet, MeetsInOrder, NetworkStep, Node, NodesHaveForm, Offers, OffersAcceptance, OneMoves, OneSilent, Operands, OperandsWellNested, Part, Path, Ranking, RawStep, RawTable, Reached, ShapesAreBusy, Silently, Stable, Stands, StepsHaveForm, Tree, TripleDisjoint, WellNested, acceptance, acceptances_after, acceptances_of, alphabets_of, end_of, in_some_alphabet, in_some_component, is_possible, is_run, laps_along, leaf, leaves, leaves_of_operands, no_node, node_after, node_at, none, operand, parallel, part_at, project, rank_after, sharers, silent, standing_at, targets_of_nodes, targets_of_steps, visible, visible_events}
pub use Rattle.dl_limits.specs.declared.TheConstants.{MOST_SETS, MOST_TERMS}
pub use Rattle.net_sound.specs.Example.Turn.{at_one, at_zero, waking}
pub use Rattle.net_sound.specs.Example.{ExampleIsLive, ExampleIsStuck, Turn, TurnStep, both, flat_ranking, pair, turns}
pub use Rattle.net_sound.specs.Flattening.{FlatStepsAreTreeSteps, StepsAreToldByLeaves, StepsKeepAlphabets, StepsKeepNesting, StepsToLeaves, TreeStepsAreFlat}
pub use Rattle.net_sound.specs.Heart.{GoodRankingsMeanLive}
pub use Rattle.net_sound.specs.Heights.{HeightsAddUp, HeightsAreExact, sum_of_greatest}
pub use Rattle.net_sound.specs.NoneStuck.{NoneIsStuck}
pub use Rattle.net_sound.specs.Normal.{NormalTablesBehave, NormalTablesCarryOver, ShapesAreWellFormed, ShapesBehave}
pub use Rattle.net_sound.specs.Projection.{ComesAlong, RunsAreJoint, RunsAreTraces, SilenceIsBounded}
pub use Rattle.net_sound.specs.Soundness.{IsSound}
pub use Rattle.std.proofs.Common.{Bool, IsTrue, List, MatchBool, Some, [], ap, ap₂, arith, cond, eq-eqb, false, get_or, inl, inr, length, length-append, map, nat_eq, pos, refl, replicate, slice_get, subst, suc, sym, true, zero, ℕ, ℤ, ◌*ℤ◌, ◌++◌, ◌+ℤ◌, ◌+◌, ◌-ℤ◌, ◌<ℤ◌, ◌<◌, ◌||◌, ◌↔◌, ◌∙◌, ◌∷◌, ◌≡◌, ◌≤ℤ◌, ◌≤◌, ◌⊎◌}
pub use Rattle.std.proofs.lemmas.Bool.{MatchBool-at_false, MatchBool-at_true, both_ways, cases_Bool, cond-false, cond-true, or_parts}
pub use Rattle.std.proofs.lemmas.Option.{same_Some}
