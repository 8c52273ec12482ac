use Rattle.comparison.proofs.Naming.{AlikeBefore}
use Rattle.comparison.proofs.names.same_channels.Given as goal

abbrev pub invariant-loop-place : goal.invariant-loop-place
invariant-loop-place l = AlikeBefore l.channels l.others l.place
