use Rattle.std.proofs.Common.{length, ◌-◌, ◌≤◌}
use Rattle.dl_outside.proofs.std_sink.print_bytes.Given as goal

abbrev pub invariant-loop-printed : goal.invariant-loop-printed
invariant-loop-printed g l = l.printed ≤ length l.bytes

abbrev pub decreases-loop-printed : goal.decreases-loop-printed
decreases-loop-printed g l = length l.bytes - l.printed
