-- Following ends is walking over arcs that are turned round.
use Rattle.definition_kinds.proofs.Prelude.{◌≡◌, ℕ, zero, suc, ◌<◌, true, false, nat_eq, eq-eqb, List, [], ◌∷◌, ◌⊎◌, inl, inr, length, refl, sym, ap, ◌∙◌, subst, arith, Some, None, slice_get, or_cases, or_left, eqb-true, false≢true, cases_lt, lt-ltb, ltb-true, slice_get_past, any_passes_from_place, has, LeadsTo, here, beyond, ends_at, End, AreReached, comes_from, is_last, some_from, ◌↔◌, IsTrue, Digraph, has_arc, HasArc, Walk, Reaches, ReachesFrom, Reaches-arc, Reaches-itself}
use Rattle.definition_kinds.proofs.SourceLaws.{from_last, from_use, place_of, source_cases}

only_source : (n s : ℕ) → has (n ∷ []) s ≡ true → s ≡ n
only_source n s h =
    elim (or_cases (nat_eq n s) false h) as (λ _. s ≡ n) [ inl same ↦ sym (eqb-true n s same) | inr never ↦ absurd (false≢true never) ]

module _ (g : Digraph) (target : End) (all : List (List End)) (n : ℕ) (count : n ≡ length all) (last : is_last target target ≡ true)
    (arcs : (v w : ℕ) → has_arc g v w ≡ some_from n target v (ends_at (slice_get all w))) where
  has_end : (d k : ℕ) (e : End) → slice_get (ends_at (slice_get all d)) k ≡ Some e → d < n
  has_end d k e at =
      elim (cases_lt d (length all)) as (λ _. d < n) [
        | inl below ↦ omega arith
        | inr past ↦
            let none : slice_get all d ≡ None = slice_get_past all d past in
            let at_none : None ≡ Some e = ap (λ o. slice_get (ends_at o) k) (sym none) ∙ at in
            absurd (cc)
      ]

  inside : {d : ℕ} → LeadsTo target all d → d < n
  inside (here d k at) = has_end d k target at
  inside (beyond d k next at l) = has_end d k (End.Use next) at

  step : (x z : ℕ) → (x ≡ n) ⊎ LeadsTo target all x → HasArc g x z → LeadsTo target all z
  step x z s arc =
      let r = place_of (comes_from n target x) (ends_at (slice_get all z)) (sym (arcs x z) ∙ arc) in
      elim (source_cases n target x r.1 r.3) as (λ _. LeadsTo target all z) [
        | inl p ↦ here z r.0 (r.2 ∙ ap Some p.1)
        | inr p ↦ elim s as (λ _. LeadsTo target all z) [
          | inl at_end ↦ absurd (let below : x < n = ltb-true x n p.0 in omega arith)
          | inr l ↦ beyond z r.0 x (r.2 ∙ ap Some p.1) l
        ]
      ]

  along : (m x y : ℕ) → (x ≡ n) ⊎ LeadsTo target all x → Walk (HasArc g) m x y → (y ≡ n) ⊎ LeadsTo target all y
  along zero x y s walk = subst (λ z. (z ≡ n) ⊎ LeadsTo target all z) walk s
  along (suc m) x y s walk = along m walk.0 y (inr (step x walk.0 s walk.1)) walk.2

  reached : {d : ℕ} → LeadsTo target all d → Reaches (HasArc g) n d
  reached (here d k at) =
      Reaches-arc (HasArc g) n n d (Reaches-itself (HasArc g) n)
      (arcs n d ∙ any_passes_from_place (comes_from n target n) (ends_at (slice_get all d)) k target at (from_last n target last))
  reached (beyond d k next at l) =
      Reaches-arc (HasArc g) n next d (reached l)
      (arcs next d ∙ any_passes_from_place (comes_from n target next) (ends_at (slice_get all d)) k (End.Use next) at (from_use n target next (lt-ltb next n (inside l))))

  pub are_leading : (found : List ℕ) → ((v : ℕ) → IsTrue (has found v) ↔ ReachesFrom (HasArc g) (n ∷ []) v) → AreReached target all found
  are_leading found members d below = (
    λ h.
        let r = (members d).0 h in
        let from : r.source ≡ n = only_source n r.source r.listed in
        elim (along r.reaches.0 r.source d (inl from) r.reaches.1) as (λ _. LeadsTo target all d) [
          | inl at_end ↦ absurd (omega arith)
          | inr l ↦ l
        ],
    λ l. (members d).1 (record { source = n; listed = or_left (nat_eq n n) false (eq-eqb n n refl); reaches = reached l }),
  )
