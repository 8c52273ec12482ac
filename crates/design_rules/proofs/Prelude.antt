-- What the proofs of this crate cite of the crates below, and of its own definitions.
pub use Rattle.csp_base.proofs.Booleans.{same_tests}
pub use Rattle.csp_base.proofs.Listed.{any_member, any_of}
pub use Rattle.csp_base.proofs.Rising.{has-append, has-filter, meets_of_from_member}
pub use Rattle.csp_base.proofs.SetLaws.{has-inter_of}
pub use Rattle.csp_base.proofs.Standard.{Decides-int_eq, and-false, and-true, and_right, both_ways, cases_eq, cases_lt, cases_order, div-add-mod', div-eq_of_lt, div-mul-add, get_or-eq_default, ints, mod-add-mod, mod-eq_of_lt, mod-le, mod-mul-add, mod_below, or_left}
pub use Rattle.csp_base.specs.Lists.{natural}
pub use Rattle.csp_base.specs.Members.{has}
pub use Rattle.csp_base.specs.Prelude.{inter_of, meets_of}
pub use Rattle.csp_tables.proofs.Runs.{end_push, node_form, run_push, sharers_other, sharers_own}
pub use Rattle.csp_tables.specs.Prelude.{Accepts, AreApart, AreJoined, ArePartsOf, AreWithin, AsMany, AtMostOne, BeginsAbove, Component, ComponentStep, Falls, Fits, HasForm, HaveBehaviours, HaveForm, IsAcceptance, IsBelow, IsBusyShape, IsLinked, IsNonEmpty, IsOn, IsPossible, IsReached, IsRun, IsShapeOf, IsShared, IsUngranted, IsWellFormed, IsWithin, Joins, JoinsTwo, Label, LapsFit, Link, Live, Meet, NetworkStep, Node, NodesHaveForm, Part, PartRanks, PartsFit, Ranking, RanksFit, RoleSets, RunsTo, Shape, Stands, StepsHaveForm, Tree, TripleDisjoint, UseSets, acceptance, acceptance_at, accepted, alphabets_of, end_of, is_end, is_possible, is_run, lap_of, laps_from, lead, leaves, link_at, no_node, node_after, node_at, part_at, part_ranks, project, rank_after, rank_at, role_at, sharers, target, use_at}
pub use Rattle.design_rules.specs.ByTables.{AcceptsSet}
pub use Rattle.design_rules.specs.Counts.{count_below}
pub use Rattle.design_rules.specs.GreatestRank.{StandsAbove}
pub use Rattle.design_rules.specs.Prelude.{AcceptsSame, AcceptsSome, Agree, AllKeepPlaces, AreChainNumbers, AreCyclicRanks, AreResourceNumbers, AreResourceRanks, Behaviours, BreaksOrder, BreaksRule, Broken, CanBeNumbered, CanBeOrdered, Clash, ClientServer, ClientServerRanksFall, ClientsCircle, ComesAfter, Cyclic, CyclicRanksFall, FallsShort, FaultsRefute, HasAcceptance, HasClient, HasFullEnds, HasKind, HasOrder, HasRank, HasRoles, HasTrace, HasUses, HasWholeEnd, HaveClients, HaveKinds, IsClientOn, IsClientServerRanking, IsCyclic, IsFirstBroken, IsFullEnd, IsGreatestRank, IsHeldWhile, IsHolder, IsNext, IsNumberedCyclic, IsReachedAt, IsRuleByNumbers, IsVertex, IsWholeEnd, JoinsKinds, KeepRoles, KeepUses, KeepsGrants, KeepsHolder, KeepsOrder, KeepsPlaces, KeepsTurns, LacksClient, LacksKind, LacksRoles, LinksCircle, LinksDiffer, MeetsRule, MetRulesMeanLive, MustPrecede, NetworkFaultsRefute, NetworksAreNumbered, NetworksBreak, NetworksMeet, NoOrder, NoWholeEnd, NotedRule, NumberedRanksFall, NumbersRise, OrderedRanksFall, OthersRankZero, OutlinesAgree, PairIsClientServer, PartShared, PlacesAreOrders, RankingsHaveGreatestRank, Ranks, RanksAs, RanksByNumber, ReachedLinksDiffer, ReachedRanksFall, ReachesLink, ReadingsAgree, Resource, ResourceRanksFall, ResourcesCircle, ResourcesRise, RowIsCyclic, RuleFault, SameOutline, SamePlace, Serves, ServesAll, TakesAnswers, TakesTurns, TwoUsersAreResource, above_all, acquires, acquiring, by_steps, by_tables, count_in, ends_lap, ends_of, free, has_acknowledgements, held, holds, idle, is_acknowledgement, is_held, is_odd, is_open, is_request, lap_at, last_from, links_from, links_of, links_with, outline, pair, pair_ranking, pair_roles, place_after, place_of, rank_there, row_of_three, row_ranking, top_number, two_users, two_users_ranking, two_users_uses, vocabulary_of}
unfoldable pub use Rattle.design_rules.specs.Prelude.{outline_of}
pub use Rattle.design_rules.specs.RankCounts.{greatest_from, greatest_rank}
pub use Rattle.digraph.proofs.WalkLaws.{same_least_circle, same_longest, same_no_circle}
pub use Rattle.digraph.specs.Prelude.{HasNoCircle, IsCircle, Leads}
pub use Rattle.digraph.specs.Walk.{IsLongestWalk, Walk}
pub use Rattle.net_sound.proofs.Finite.{below_suc, search_list}
pub use Rattle.net_sound.proofs.FormOfTables.{shapes_are_well_formed}
pub use Rattle.net_sound.proofs.Parts.{component_of, part_of, part_within}
pub use Rattle.net_sound.proofs.ShapeOf.{shapes_are_busy}
pub use Rattle.net_sound.proofs.Sharers.{at_three, at_two}
pub use Rattle.net_sound.proofs.Soundness.{good_rankings_mean_live, same_alphabets}
pub use Rattle.net_sound.proofs.Within.{acceptance_within, part_form}
pub use Rattle.net_sound.specs.Soundness.{IsSound}
pub use Rattle.std.proofs.Common.{Bool, IsTrue, List, None, Option, Some, [], ap, append-nil, append_assoc, ap₂, arith, cond, eq-eqb, false, get_or, inl, inr, le-leb, le-ltb, leb-true, length, lt-ltb, ltb-true, map, max, nat_eq, nat_le, nat_lt, ne_eqb, not, pos, refl, subst, suc, sym, true, zero, ℕ, ℤ, ◌%◌, ◌&&◌, ◌*ℤ◌, ◌*◌, ◌++◌, ◌+ℤ◌, ◌+◌, ◌-ℤ◌, ◌-◌, ◌/◌, ◌<ℤ◌, ◌<◌, ◌||◌, ◌∙◌, ◌∷◌, ◌≡◌, ◌≤◌, ◌⊎◌}
pub use Rattle.std.proofs.lemmas.Bool.{and_from, and_parts, cases_Bool, cond-false, cond-true, eqb-true, false≢true, not-true, or_cases, or_parts, or_right}
pub use Rattle.std.specs.List.{flat_map, list_any}
pub use Rattle.std.specs.Ordering.{int_eq}
pub use lib.IntN.{*ℤ-zero, +ℤ_invr, zero-*ℤ}
