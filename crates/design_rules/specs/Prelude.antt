-- What is defined here, under one name for those who import it.
pub use Rattle.design_rules.specs.Agreement.{AcceptsSame, Agree, NetworkFaultsRefute, NetworksBreak, NetworksMeet, OutlinesAgree, ReadingsAgree, SameOutline}
pub use Rattle.design_rules.specs.Assigned.{PartShared}
pub use Rattle.design_rules.specs.Behaviours.{Behaviours, HasAcceptance, HasTrace, by_steps}
pub use Rattle.design_rules.specs.ByTables.{AcceptsSet, by_tables}
pub use Rattle.design_rules.specs.ClientServer.{IsClientServer, KeepRoles}
pub use Rattle.design_rules.specs.ClientServerFaults.{BreaksRoles}
pub use Rattle.design_rules.specs.ClientServerLaws.{ClientServerRanksFall}
pub use Rattle.design_rules.specs.ClientServerRanking.{IsClientServerRanking}
pub use Rattle.design_rules.specs.ClientServerRule.{HasClient, HasRoles, IsClientOn, Serves, ServesAll, TakesAnswers, TakesTurns, has_acknowledgements, is_acknowledgement, is_open, is_request}
pub use Rattle.design_rules.specs.ClientServerRuleFaults.{HaveClients, LacksClient, LacksRoles}
pub use Rattle.design_rules.specs.Counts.{above_all, count_below, count_in, is_odd}
pub use Rattle.design_rules.specs.Cyclic.{AllKeepPlaces, HasWholeEnd, IsCyclic, IsReachedAt, IsWholeEnd, KeepsPlaces, MustPrecede, NumbersRise, ReachesLink}
pub use Rattle.design_rules.specs.CyclicFaults.{BreaksOrder}
pub use Rattle.design_rules.specs.CyclicLaws.{CyclicRanksFall, IsRuleByNumbers, NetworksAreNumbered, NumberedRanksFall, PlacesAreOrders, ReachedRanksFall}
pub use Rattle.design_rules.specs.CyclicNumbered.{HasFullEnds, HasOrder, IsFullEnd, IsNext, IsNumberedCyclic, KeepsOrder, LinksDiffer, ReachedLinksDiffer, place_of}
pub use Rattle.design_rules.specs.CyclicRanking.{AreChainNumbers, AreCyclicRanks, ComesAfter, IsCyclicRanking, ends_lap}
pub use Rattle.design_rules.specs.CyclicRule.{CanBeNumbered, FallsShort, SamePlace, links_of, place_after}
pub use Rattle.design_rules.specs.CyclicRuleFaults.{Clash, ends_of}
pub use Rattle.design_rules.specs.Example.{PairIsClientServer, RowIsCyclic, TwoUsersAreResource, pair, pair_ranking, pair_roles, row_of_three, row_ranking, two_users, two_users_ranking, two_users_uses}
pub use Rattle.design_rules.specs.FirstBroken.{AllKeep, IsFirstBroken}
pub use Rattle.design_rules.specs.GreatestRank.{HasRank, IsGreatestRank, NetworkHasGreatestRank, RanksAs, RanksByNumber, top_number}
pub use Rattle.design_rules.specs.GreatestRank.RanksByNumber.{acquiring, free, held, idle}
pub use Rattle.design_rules.specs.Live.{MetRulesMeanLive}
pub use Rattle.design_rules.specs.NotedRules.{BreaksClientServerRule, BreaksCyclicRule, BreaksResourceRule, BreaksRule, MeetsRule, NetworkBreaks, NetworkMeets}
pub use Rattle.design_rules.specs.Outline.{link_between, links_from, links_with, outline, vocabulary_of}
unfoldable pub use Rattle.design_rules.specs.Outline.{outline_of}
pub use Rattle.design_rules.specs.RankCounts.{RankingsHaveGreatestRank, greatest_rank}
pub use Rattle.design_rules.specs.Resource.{IsHeldWhile, IsResource, KeepUses, ResourcesRise}
pub use Rattle.design_rules.specs.ResourceFaults.{BreaksUses}
pub use Rattle.design_rules.specs.ResourceLaws.{OrderedRanksFall, ResourceRanksFall}
pub use Rattle.design_rules.specs.ResourceRanking.{AcceptsSome, AreResourceNumbers, AreResourceRanks, IsResourceRanking, StandsAbove, rank_there}
pub use Rattle.design_rules.specs.ResourceRule.{CanBeOrdered, GrantsAll, HasUses, HaveKinds, IsHolder, IsUsedInTurn, JoinsKinds, UsesInTurn, acquires, holds, is_held, last_from}
pub use Rattle.design_rules.specs.ResourceRuleFaults.{HasKind, KeepsGrants, KeepsHolder, KeepsTurns, LacksKind}
pub use Rattle.design_rules.specs.Rules.{BreaksClientServer, BreaksCyclic, BreaksResource, FaultsRefute, HasNotes, Ranks}
pub use Rattle.design_rules.specs.Vertices.{IsVertex, OthersRankZero, lap_at}
pub use Rattle.design_rules.specs.declared.noted_rule.NotedRule.{NotedRule}
pub use Rattle.design_rules.specs.declared.noted_rule.NotedRule.TheVariants.{ClientServer, Cyclic, Resource}
pub use Rattle.design_rules.specs.declared.rule_fault.RuleFault.{RuleFault}
pub use Rattle.design_rules.specs.declared.rule_fault.RuleFault.TheVariants.{Broken, ClientsCircle, LinksCircle, NoOrder, NoWholeEnd, ResourcesCircle}
