-- What is defined here, under one name for those who import it.
pub use Rattle.dl_top.specs.Cause.{CallsFor, HoldsAll, HoldsAllNamed, IsLoad, Loaded, LoadsHeld, MayGive, Replies, TellsLoad, TextsCallFor}
pub use Rattle.dl_top.specs.Complete.{AsksForSuch, HoldWithin, Passing, Running, SpellMatching, SpellsPassing, SpellsTabled, SpellsTables, SpellsWithinBound, TextPasses}
pub use Rattle.dl_top.specs.Ending.{Ends, EndsInShelfFault, EndsWhole, GrowsByFront, SinkSigns, sink_signs}
pub use Rattle.dl_top.specs.Judgement.{IsDecided, NetworkDecides, NetworkOr, SpellsNetwork, SpellsNoNetwork, SpellsNoScript, SpellsOnlyNetwork, SpellsOnlyScript, TextCallsFor, TextIsShown, TextsCompare}
pub use Rattle.dl_top.specs.Kept.{AreHeld, Handed, HandedTextsAreHeld, HaveGiven, Kept}
pub use Rattle.dl_top.specs.Printing.{IsUnloaded, Prints, no_script}
pub use Rattle.dl_top.specs.Promised.{IsStuckRun, JobPromised, Promised, SpellsBounded, SpellsConforming, SpellsShown, SpellsTable, TellsRank}
pub use Rattle.dl_top.specs.Proved.{IsFree, SpellsDeadlockFree}
pub use Rattle.dl_top.specs.Ran.{IsRun, SpellsRun, last_line}
pub use Rattle.dl_top.specs.Reply.{heading_text, plain, reply_status, reply_text, rule_of, trial_text}
