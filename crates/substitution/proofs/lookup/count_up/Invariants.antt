use Rattle.substitution.proofs.Prelude.{◌≡◌, ◌+◌, drop, counts_up}
use Rattle.substitution.proofs.lookup.count_up.Given as goal

-- those so far count up
abbrev pub invariant-loop-place : goal.invariant-loop-place
invariant-loop-place l = counts_up (l.first + l.place) (drop l.place l.names) ≡ counts_up l.first l.names
