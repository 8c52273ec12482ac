use Rattle.cyclic_rule.proofs.Prelude.{◌≡◌, ℕ, ◌<◌, ◌⊎◌, Some, false, length, slice_get, has, HasArc, IsRestAfter}
use Rattle.cyclic_rule.proofs.numbers.chain_rest.Given as goal

abbrev pub invariant-loop-link : goal.invariant-loop-link
invariant-loop-link l = record {
  count : length l.rows ≡ length l.initial.rows;
  sound : (m k : ℕ) → HasArc l.rows m k → HasArc l.initial.rows m k ⊎ IsRestAfter l.order l.ends k m;
  kept : (m k : ℕ) → HasArc l.initial.rows m k → HasArc l.rows m k;
  complete : (j m : ℕ) → j < l.link-index → slice_get l.ends j ≡ Some m → has l.order m ≡ false → HasArc l.rows m l.last;
}
