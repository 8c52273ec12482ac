-- Where no definition that uses one is too deep, none reaches itself: a circle of uses would be deeper than any limit.
use Rattle.resolved_laws.proofs.Sources.{◌≡◌, ℕ, zero, suc, ◌+◌, ◌<◌, ◌≤◌, IsTrue, List, subst, arith, slice_get, Reaches, def_uses, by_use, by_way, definition_depth, depth_at, Def}
use Rattle.resolved_laws.proofs.UsesBelow.{use_below}

module _ (defs : List Def) where
  -- definitions that lead on so many times
  abbrev Chain : ℕ → ℕ → Type 0
  Chain zero i = Unit {0}
  Chain (suc k) i = (j : ℕ) × IsTrue (def_uses (slice_get defs i) j) × Chain k j

  chain_less : (k i : ℕ) → Chain (suc k) i → Chain k i
  chain_less zero i c = tt
  chain_less (suc k) i c = (c.0, c.1, chain_less k c.0 c.2)

  reach_chain : (i j : ℕ) → Reaches defs i j → (k : ℕ) → Chain k j → Chain (suc k) i
  reach_chain i j (by_use _ _ u) k c = (j, u, c)
  reach_chain i j (by_way _ h _ u r) k c = (h, u, chain_less k h (reach_chain h j r k c))

  circle_chain : (n : ℕ) → Reaches defs n n → (k : ℕ) → Chain k n
  circle_chain n r zero = tt
  circle_chain n r (suc k) = reach_chain n n r k (circle_chain n r k)

  deep_chain : (k i : ℕ) → Chain k i → k ≤ definition_depth k defs i
  deep_chain zero i c = omega arith
  deep_chain (suc k) i c =
      let e : k ≤ definition_depth k defs c.0 = deep_chain k c.0 c.2 in
      let l : definition_depth k defs c.0 < depth_at (definition_depth k defs) (slice_get defs i) =
      use_below (definition_depth k defs) (slice_get defs i) c.0 c.1 in
      omega arith

  no_chain : (limit n : ℕ) → Chain (suc limit) n → definition_depth (suc limit) defs n ≤ limit → ⊥
  no_chain limit n c h = let l : suc limit ≤ definition_depth (suc limit) defs n = deep_chain (suc limit) n c in absurd (omega arith)

  pub none_reaches_itself : (limit : ℕ) → ((i j : ℕ) → IsTrue (def_uses (slice_get defs i) j) → definition_depth (limit + 1) defs i ≤ limit)
      → (n : ℕ) → Reaches defs n n → ⊥
  none_reaches_itself limit shallow n r =
      let c = circle_chain n r (suc limit) in
      let e : limit + 1 ≡ suc limit = omega arith in
      no_chain limit n c (subst (λ z. definition_depth z defs n ≤ limit) e (shallow n c.0 c.1))
