-- What is defined here, under one name for those who import it.
pub use Rattle.network_stages.specs.Busy.{HasEmpty, IsBusyPart, PartCanStop, StopsFirst, StopsFirstIn}
pub use Rattle.network_stages.specs.Faults.{HasFault, TellsRound, at_component}
pub use Rattle.network_stages.specs.Laws.{FaultsExcludeAllTables}
pub use Rattle.network_stages.specs.Networks.{AreSeatsOf, HasSilentBound, IsLive, IsNetworkOf, IsSpelled, Network, network_at, tree_in}
unfoldable pub use Rattle.network_stages.specs.Networks.{tree_at}
pub use Rattle.network_stages.specs.Rows.{AreLinksBefore, IsVocabulary}
pub use Rattle.network_stages.specs.Sets.{ArePartsBy, HasManySets, HaveFewSets, HaveFewSetsBefore}
pub use Rattle.network_stages.specs.Shapes.{IsApart}
pub use Rattle.network_stages.specs.Stages.{CanStop, HasNoNetwork, HasNoPart, HasNoParts, HasNoTables, HasParts, HasTables, HaveNoParts, HaveNoTables, ShareEvent, SpellsNone, StaysBusy}
pub use Rattle.network_stages.specs.Tables.{AreTablesOf, AreTablesWithin, HasTable, IsTableWithin, room_after, room_left, whole_room}
pub use Rattle.network_stages.specs.TreeCode.{tree_code}
pub use Rattle.network_stages.specs.Views.{ChosenComponent, PartedNetwork, ShapedNetwork, TabledNetwork}
