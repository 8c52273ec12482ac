use Rattle.cyclic_rule.proofs.Prelude.{◌≡◌, ℕ, ◌<◌, ◌+◌, ◌⊎◌, Some, length, slice_get, HasArc, IsNextIn}
use Rattle.cyclic_rule.proofs.numbers.chain.Given as goal

abbrev pub invariant-loop-place : goal.invariant-loop-place
invariant-loop-place l = record {
  count : length l.rows ≡ length l.initial.rows;
  sound : (m k : ℕ) → HasArc l.rows m k → HasArc l.initial.rows m k ⊎ IsNextIn l.order k m;
  kept : (m k : ℕ) → HasArc l.initial.rows m k → HasArc l.rows m k;
  complete : (q m k : ℕ) → q + 1 < l.place → slice_get l.order q ≡ Some k → slice_get l.order (q + 1) ≡ Some m → HasArc l.rows m k;
}
