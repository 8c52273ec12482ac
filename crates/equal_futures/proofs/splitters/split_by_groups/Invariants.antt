use Rattle.equal_futures.proofs.Prelude.{◌-◌, length, state_of, count_of}
use Rattle.equal_futures.proofs.Grouping.{AreSplitUpTo}
use Rattle.equal_futures.proofs.splitters.split_by_groups.Given as goal

abbrev pub invariant-loop-from : goal.invariant-loop-from
invariant-loop-from l = AreSplitUpTo (count_of l.initial.partition) (state_of l.initial.partition) (state_of l.partition) l.steps l.from

abbrev pub decreases-loop-from : goal.decreases-loop-from
decreases-loop-from l = length l.steps - l.from
