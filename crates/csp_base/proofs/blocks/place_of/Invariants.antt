use Rattle.csp_base.proofs.Prelude.{◌≤◌, ◌-◌, length, take, drop, AreBlocksFrom, end_from}
use Rattle.csp_base.proofs.blocks.place_of.Given as goal

abbrev pub invariant-loop-low : goal.invariant-loop-low
invariant-loop-low l = record {
  ordered : l.low ≤ l.high;
  within : l.high ≤ length l.blocks;
  before : end_from 0 (take l.low l.blocks) ≤ l.number;
  after : AreBlocksFrom l.number (drop l.high l.blocks);
}

abbrev pub decreases-loop-low : goal.decreases-loop-low
decreases-loop-low l = l.high - l.low
