-- Arcs from clients to servers.
use Rattle.client_server_rule.proofs.Prelude.{◌≡◌, ℕ, ◌+◌, ◌<◌, ◌⊎◌, Bool, true, ◌&&◌, ◌||◌, nat_eq, length, inl, inr, sym, subst, ◌∙◌, arith, eq-eqb, cases_lt, and_from, or_right, link_at, Network, IsLinked, Asks, Grants, ServesOn, ServesBelow, one_side}

module _ (network : Network) (l i j : ℕ) (linked : IsLinked network) (h : (link_at network.shape l).left < length network.shape.parts) where
  -- where the left end asks, the client is the left end
  pub left_serves : Asks network (link_at network.shape l).left l → ServesOn network l i j → (i ≡ (link_at network.shape l).left) × (j ≡ (link_at network.shape l).right)
  left_serves a s = elim s.joins.ends [
    | inl k ↦ (sym k.0, sym k.1)
    | inr k ↦ absurd (one_side network (link_at network.shape l).left l linked h a (subst (λ p. Grants network p l) (sym k.0) (record { asker = i; joins = s.joins; client = s.client })))
  ]

  pub right_serves : Grants network (link_at network.shape l).left l → ServesOn network l i j → (i ≡ (link_at network.shape l).right) × (j ≡ (link_at network.shape l).left)
  right_serves g s = elim s.joins.ends [
    | inl k ↦ absurd (one_side network (link_at network.shape l).left l linked h (subst (λ p. Asks network p l) (sym k.0) (record { server = j; joins = s.joins; client = s.client })) g)
    | inr k ↦ (sym k.1, sym k.0)
  ]

-- an arc that was added
pub arc_there : (old new : Bool) (i j from to : ℕ) → new ≡ (old || (nat_eq i from && nat_eq j to)) → i ≡ from → j ≡ to → new ≡ true
arc_there old new i j from to is p q = is ∙ or_right old (nat_eq i from && nat_eq j to) (and_from (nat_eq i from) (nat_eq j to) (eq-eqb i from p) (eq-eqb j to q))

-- the arcs of one link more
module _ (network : Network) (n i j : ℕ) (Old New : ℕ → ℕ → Type 0) where
  pub sound_more : (Old i j → ServesBelow network n i j) → (New i j → Old i j ⊎ ServesOn network n i j) → New i j → ServesBelow network (n + 1) i j
  sound_more before new arc = elim (new arc) [
    | inl old ↦ let s = before old in (s.0, (let b : s.0 < n = s.1 in omega arith), s.2)
    | inr added ↦ (n, omega arith, added)
  ]

  pub complete_more : (ServesBelow network n i j → Old i j) → (Old i j → New i j) → (ServesOn network n i j → New i j) → ServesBelow network (n + 1) i j → New i j
  complete_more before kept new s = elim (cases_lt s.0 n) [
    | inl old ↦ kept (before (s.0, old, s.2))
    | inr now ↦ new (subst (λ m. ServesOn network m i j) (let b : s.0 < n + 1 = s.1 in let same : s.0 ≡ n = omega arith in same) s.2)
  ]
