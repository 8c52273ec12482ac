use Rattle.pool_parts.proofs.Prelude.{◌≡◌, ℕ, ◌+◌, ◌≤◌, max, min, map, drop, pair_depth, any_of, pair_free, pair_size, capped, IsLow, greatest, total}
use Rattle.pool_parts.proofs.measured.of_pairs.Given as goal

-- what is measured so far, together with the rest, is all
abbrev pub invariant-loop-pair : goal.invariant-loop-pair
invariant-loop-pair l = record {
  small : l.all.size ≤ 4294967295;
  depth : max l.all.depth (capped (greatest (map pair_depth (drop l.pair-index l.pairs)))) ≡ capped (greatest (map pair_depth l.pairs));
  size : capped (l.all.size + total (map pair_size (drop l.pair-index l.pairs))) ≡ capped (total (map pair_size l.pairs));
  low : (n : ℕ) → IsLow n (any_of (map pair_free (drop l.pair-index l.pairs))) → IsLow (min l.all.least n) (any_of (map pair_free l.pairs));
}
