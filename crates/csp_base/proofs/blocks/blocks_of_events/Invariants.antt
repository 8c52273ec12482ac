use Rattle.csp_base.proofs.Prelude.{◌≡◌, ℕ, take, has, AreBlocks, events_of}
use Rattle.csp_base.proofs.blocks.blocks_of_events.Given as goal

abbrev pub invariant-loop-event : goal.invariant-loop-event
invariant-loop-event l = record {
  blocks : AreBlocks l.made.items;
  members : (x : ℕ) → has (events_of l.made.items) x ≡ has (take l.event-index l.events) x;
}
