use Rattle.digraph.proofs.Prelude.{◌≡◌, take, found_after}
use Rattle.digraph.proofs.reach.add_all.Given as goal

abbrev pub invariant-loop-v : goal.invariant-loop-v
invariant-loop-v l = l.found ≡ found_after l.initial.found (take l.v-index l.vertices)
