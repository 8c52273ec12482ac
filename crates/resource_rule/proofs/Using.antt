-- The condition on a user by tests of its explorations.
use Rattle.resource_rule.proofs.Prelude.{◌≡◌, ℕ, ◌<◌, inl, inr, List, length, Option, None, Some, Bool, true, false, cond, nat_eq, refl, sym, ap, subst, ◌∙◌, cases_Bool, cond-true, cond-false, both_ways, has, IsRun, Joins, Shape, end_of, part_at, link_at, use_at, observed, parity_step, Setting, node_of, is_use, are_uses, UsesLink, all_possible, some_possible, FindsRun, IsDecided, holds, parity_is}

-- ---- U4

module _ (g : Setting) (i l j : ℕ) (h : i < length g.shape.parts) where
  abbrev parity_of : List ℕ → ℕ
  parity_of s = observed (parity_step (link_at g.shape l).shared) 0 s

  use_is : (s : List ℕ) (e : ℕ) → has (link_at g.shape l).shared e ≡ true → is_use g l j (parity_of s) e ≡ cond (holds g.shape l s) (has (use_at g.uses j).release e) (has (use_at g.uses j).acquire e)
  use_is s e on =
      cond-true (has (link_at g.shape l).shared e) (cond (nat_eq (parity_of s) 0) (has (use_at g.uses j).acquire e) (has (use_at g.uses j).release e)) true on
      ∙ ap (λ n. cond (nat_eq n 0) (has (use_at g.uses j).acquire e) (has (use_at g.uses j).release e)) (parity_is (link_at g.shape l).shared s)
      ∙ by_parity (holds g.shape l s) (has (use_at g.uses j).acquire e) (has (use_at g.uses j).release e)
    where
      by_parity : (b x y : Bool) → cond (nat_eq (cond b 1 0) 0) x y ≡ cond b y x
      by_parity true x y = refl
      by_parity false x y = refl

  is_on_link : (state e : ℕ) → is_use g l j state e ≡ false → has (link_at g.shape l).shared e ≡ true
  is_on_link state e broken = elim (cases_Bool (has (link_at g.shape l).shared e)) [
    | inl on ↦ on
    | inr off ↦ absurd (both_ways (is_use g l j state e) broken (cond-false (has (link_at g.shape l).shared e) (cond (nat_eq state 0) (has (use_at g.uses j).acquire e) (has (use_at g.uses j).release e)) true off))
  ]

  pub uses_link : ((s : List ℕ) → IsRun (part_at g.shape.parts i).table s → are_uses g i l j (end_of (part_at g.shape.parts i).table 0 s, observed (parity_step (link_at g.shape l).shared) 0 s) ≡ true) → (s : List ℕ) → UsesLink g i l j s
  uses_link all s e possible on =
      sym (use_is s e on) ∙ all_possible (is_use g l j (parity_of s)) (node_of g i (end_of (part_at g.shape.parts i).table 0 s)).next e (all s possible.runs.follows) possible.next

  pub not_in_use : (s : List ℕ) → IsRun (part_at g.shape.parts i).table s → are_uses g i l j (end_of (part_at g.shape.parts i).table 0 s, observed (parity_step (link_at g.shape l).shared) 0 s) ≡ false → UsesLink g i l j s → ⊥
  not_in_use s run broken used =
      let x = some_possible (is_use g l j (parity_of s)) (node_of g i (end_of (part_at g.shape.parts i).table 0 s)).next broken in
      let on = is_on_link (parity_of s) x.0 x.2 in
      both_ways (is_use g l j (parity_of s) x.0) x.2 (use_is s x.0 on ∙ used x.0 (record { runs = record { part = h; follows = run }; next = x.1 }) on)

  -- ---- U4 on one link, by the test of it after each run

  not_met : (b : Bool) → (b ≡ true → ⊥) → b ≡ false
  not_met true never = absurd (never refl)
  not_met false never = refl

  pub decided_use : Joins g.shape i j l → ((k : ℕ) → Joins g.shape i k l → k ≡ j) → (run : Option (List ℕ)) → IsDecided g.shape i (λ s. are_uses g i l j (end_of (part_at g.shape.parts i).table 0 s, observed (parity_step (link_at g.shape l).shared) 0 s) ≡ true) run → FindsRun g.shape i (λ s. (k : ℕ) → Joins g.shape i k l → UsesLink g i l k s) run
  decided_use joins only None d = λ s k other. subst (λ n. UsesLink g i l n s) (sym (only k other)) (uses_link (λ t runs. d t (record { part = h; follows = runs })) s)
  decided_use joins only (Some s) d = (d.0, λ used. not_in_use s d.0.follows (not_met _ d.1) (used j joins))

-- what is found of a condition is found of it where it is asked
pub found_of : (shape : Shape) (i : ℕ) (U : Type 0) (P : List ℕ → Type 0) (run : Option (List ℕ)) → U → FindsRun shape i P run → FindsRun shape i (λ s. U → P s) run
found_of shape i U P None u found = λ s _. found s
found_of shape i U P (Some s) u found = (found.0, λ p. found.1 (p u))
