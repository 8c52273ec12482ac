-- Arcs that are added: none, those that pass a test, and those of one number after the other.
use Rattle.resource_rule.proofs.Prelude.{◌≡◌, ◌<◌, ◌+◌, ◌||◌, ◌&&◌, inl, inr, ℕ, zero, suc, List, [], Bool, true, false, nat_eq, replicate, get_or, length, refl, sym, ap, subst, ◌∙◌, arith, cases_eq, cases_lt, false≢true, get_or_read, ne_eqb, or-false, or_cases, or_left, or_right, has, is_subset_of, has_arc, AddsArcs, Below}
use Rattle.resource_rule.proofs.Offering.{absorbed}

-- there is no arc at first
pub no_arc : (n j m : ℕ) → has_arc (replicate n []) j m ≡ true → ⊥
no_arc zero j m arc = false≢true arc
no_arc (suc n) zero m arc = false≢true arc
no_arc (suc n) (suc j) m arc = no_arc n j m arc

-- what passes a test in a list, and how much of it is left
pub one_more_test : (old of here rest all new : Bool) → new ≡ (old || (of && here)) → (old || (of && (here || rest))) ≡ all → (new || (of && rest)) ≡ all
one_more_test true of here rest all new is before = ap (λ b. b || (of && rest)) is ∙ before
one_more_test false true here rest all new is before = ap (λ b. b || rest) is ∙ before
one_more_test false false here rest all new is before = ap (λ b. b || false) is ∙ before

-- members that a row has already add no arcs
pub kept_row : (rows : List (List ℕ)) (place : ℕ) (row more : List ℕ) → place < length rows → row ≡ get_or rows place row → is_subset_of more row ≡ true → (v w : ℕ) → has_arc rows v w ≡ (has_arc rows v w || (nat_eq place v && has more w))
kept_row rows place row more h at within v w = elim (cases_eq place v) as (λ _. has_arc rows v w ≡ (has_arc rows v w || (nat_eq place v && has more w))) [
  | inl same ↦ absorbed more (get_or rows v []) (nat_eq place v) w (subst (λ xs. is_subset_of more xs ≡ true) (get_or_read rows place row h at [] ∙ ap (λ n. get_or rows n []) same) within)
  | inr other ↦ rw (ne_eqb place v other) (sym (or-false (has_arc rows v w)))
]

pub adds_none : (P : ℕ → ℕ → Type 0) (rows : List (List ℕ)) → ((v w : ℕ) → P v w → ⊥) → AddsArcs P rows rows
adds_none P rows none = record { count = refl; sound = λ v w arc. inl arc; kept = λ v w arc. arc; added = λ v w p. absurd (none v w p) }

pub adds_tested : (P : ℕ → ℕ → Type 0) (test : ℕ → ℕ → Bool) (old new : List (List ℕ)) → length new ≡ length old → ((v w : ℕ) → has_arc new v w ≡ (has_arc old v w || test v w)) → ((v w : ℕ) → test v w ≡ true → P v w) → ((v w : ℕ) → P v w → test v w ≡ true) → AddsArcs P old new
adds_tested P test old new count is to from = record {
  count = count;
  sound = λ v w arc. elim (or_cases (has_arc old v w) (test v w) (sym (is v w) ∙ arc)) [ inl before ↦ inl before | inr added ↦ inr (to v w added) ];
  kept = λ v w arc. is v w ∙ or_left (has_arc old v w) (test v w) arc;
  added = λ v w p. is v w ∙ or_right (has_arc old v w) (test v w) (from v w p);
}

pub adds_alike : (P Q : ℕ → ℕ → Type 0) (old new : List (List ℕ)) → AddsArcs P old new → ((v w : ℕ) → P v w → Q v w) → ((v w : ℕ) → Q v w → P v w) → AddsArcs Q old new
adds_alike P Q old new adds to from = record {
  count = adds.count;
  sound = λ v w arc. elim (adds.sound v w arc) [ inl before ↦ inl before | inr added ↦ inr (to v w added) ];
  kept = adds.kept;
  added = λ v w q. adds.added v w (from v w q);
}

module _ (P : ℕ → ℕ → ℕ → Type 0) where
  pub adds_below_none : (rows : List (List ℕ)) → AddsArcs (Below P 0) rows rows
  adds_below_none rows = adds_none (Below P 0) rows (λ v w p. absurd (let less : p.0 < 0 = p.1 in omega arith))

  -- those of one number more
  pub adds_more : (n : ℕ) (old between new : List (List ℕ)) → AddsArcs (Below P n) old between → AddsArcs (P n) between new → AddsArcs (Below P (n + 1)) old new
  adds_more n old between new first then_ = record {
    count = then_.count ∙ first.count;
    sound = λ v w arc. elim (then_.sound v w arc) [
      | inl before ↦ elim (first.sound v w before) [
        | inl old ↦ inl old
        | inr p ↦ let less : p.0 < n = p.1 in inr (p.0, omega arith, p.2)
      ]
      | inr q ↦ inr (n, omega arith, q)
    ];
    kept = λ v w arc. then_.kept v w (first.kept v w arc);
    added = λ v w p.
        let less : p.0 < n + 1 = p.1 in
        elim (cases_lt p.0 n) [
          | inl below ↦ then_.kept v w (first.added v w (p.0, below, p.2))
          | inr last ↦ let same : p.0 ≡ n = omega arith in then_.added v w (subst (λ k. P k v w) same p.2)
        ];
  }
