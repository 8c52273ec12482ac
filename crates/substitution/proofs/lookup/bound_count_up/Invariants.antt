use Rattle.substitution.proofs.Prelude.{◌≡◌, ◌+◌, drop, map, counts_up}
use Rattle.substitution.proofs.lookup.bound_count_up.Given as goal

-- those so far count up
abbrev pub invariant-loop-place : goal.invariant-loop-place
invariant-loop-place l = counts_up (l.first + l.place) (map (λ b. b.0) (drop l.place l.bound)) ≡ counts_up l.first (map (λ b. b.0) l.bound)
