use Rattle.normal_form.proofs.Merging.{AreMergedSoFar}
use Rattle.normal_form.proofs.merge.merge.Given as goal

abbrev pub invariant-loop-place : goal.invariant-loop-place
invariant-loop-place l = AreMergedSoFar l.nodes l.numbers l.place l.merged.items
