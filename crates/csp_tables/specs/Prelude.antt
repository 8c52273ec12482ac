-- What is defined here, under one name for those who import it.
pub use Rattle.csp_tables.specs.Behaviour.{HasBehaviour, HaveBehaviours, OffersAcceptance}
pub use Rattle.csp_tables.specs.BreadthFirst.{IsBreadthFirst, MeetsInOrder, MeetsUpTo, targets_of_nodes, targets_of_steps}
pub use Rattle.csp_tables.specs.Falls.{Falls, IsUngranted, lead}
pub use Rattle.csp_tables.specs.Flat.{AllTakePart, FlatStep, OneMoves, in_some_component}
pub use Rattle.csp_tables.specs.Form.{AreWithin, BeginsAbove, HasForm, HaveForm, NodesHaveForm, StepsHaveForm}
pub use Rattle.csp_tables.specs.GoodRanking.{IsGoodRanking}
pub use Rattle.csp_tables.specs.Label.{Label}
pub use Rattle.csp_tables.specs.Label.Label.{silent, visible}
pub use Rattle.csp_tables.specs.Live.{Live}
pub use Rattle.csp_tables.specs.Network.{AllTogether, Component, ComponentStep, NetworkStep, OneSilent, Operands, Tree, in_some_alphabet, leaves, leaves_of_operands}
pub use Rattle.csp_tables.specs.Network.Operands.{none, operand}
pub use Rattle.csp_tables.specs.Network.Tree.{leaf, parallel}
pub use Rattle.csp_tables.specs.NormalTable.{HasAcceptances, IsListed, IsNormalTable, IsRisingNode}
pub use Rattle.csp_tables.specs.Offer.{IsMinimalOffer, IsOfferOf}
pub use Rattle.csp_tables.specs.Part.{AreApart, IsNonEmpty, IsShared, Meet, Part, TripleDisjoint, alphabets_of, part_at, project, sharers}
pub use Rattle.csp_tables.specs.Path.{Path, Reached, SilentStep, Silently, Stable}
pub use Rattle.csp_tables.specs.Ranking.{AsMany, AtMostOne, Fits, LapsFit, PartRanks, PartsFit, Ranking, RanksFit, lap_of, laps_along, laps_from, part_ranks, rank_after, rank_at}
pub use Rattle.csp_tables.specs.RawForm.{HasRawForm, has_silent, has_step}
pub use Rattle.csp_tables.specs.RawTable.{IsInTable, IsStepOf, IsTableOf, RawStep, RawTable, standing_at}
pub use Rattle.csp_tables.specs.RowOrder.{event_targets, silent_targets, targets_in}
pub use Rattle.csp_tables.specs.Roles.{RoleSets, UseSets, role_at, use_at}
pub use Rattle.csp_tables.specs.Shape.{AreJoined, IsBelow, IsLinked, IsWellFormed, Joins, JoinsTwo, Link, LinksAreOrdered, Shape, acceptance_at, is_end, link_at}
pub use Rattle.csp_tables.specs.ShapeOf.{AreBusy, ArePartsOf, IsPartOf, IsShapeOf, ShapesAreBusy}
pub use Rattle.csp_tables.specs.SilentBound.{IsGreatestSilence, IsSilentBound}
pub use Rattle.csp_tables.specs.Standing.{Accepts, IsBusyShape, IsOn, IsPossible, RunsTo, accepted}
pub use Rattle.csp_tables.specs.Stands.{AllStand, Follows, IsAgreed, IsJointRun, Stands, acceptance, acceptances_of}
pub use Rattle.csp_tables.specs.Table.{IsReached, IsRun, Node, acceptances_after, end_of, is_possible, is_run, no_node, node_after, node_at, target}
pub use Rattle.csp_tables.specs.Trace.{After, HaveSameFuture, IsAcceptance, IsBusy, IsStableOffer, IsTrace, IsWithin, Offers, visible_events}
pub use Rattle.csp_tables.specs.WellNested.{OperandsWellNested, WellNested}
