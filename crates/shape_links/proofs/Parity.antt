-- The parity that a run leaves is that of the number of its events.
use Rattle.shape_links.proofs.Prelude.{◌≡◌, ℕ, suc, List, [], ◌∷◌, Bool, true, false, not, cond, nat_eq, inl, inr, refl, sym, ap, ◌∙◌, arith, cases_Bool, cond-true, cond-false, has, observed, parity_step, count_in, is_odd, count_more, count_same}

abbrev number : Bool → ℕ
number b = cond b 1 0

turned : (S : List ℕ) (e : ℕ) (b : Bool) → has S e ≡ true → parity_step S (cond b 1 0) e ≡ cond (not b) 1 0
turned S e true on = cond-true (has S e) 0 1 on
turned S e false on = cond-true (has S e) 1 0 on

again : (b odd : Bool) → cond odd (not (not b)) (not b) ≡ cond (not odd) (not b) b
again true true = refl
again false true = refl
again b false = refl

-- from an odd or even state on
parity_from : (S : List ℕ) (b : Bool) (s : List ℕ) → observed (parity_step S) (cond b 1 0) s ≡ cond (cond (is_odd (count_in S s)) (not b) b) 1 0
parity_from S b [] = refl
parity_from S b (e ∷ s) = elim (cases_Bool (has S e)) [
  | inl on ↦
      let more : count_in S (e ∷ s) ≡ suc (count_in S s) = omega (arith, count_more S e s on) in
      ap (λ n. observed (parity_step S) n s) (turned S e b on) ∙ parity_from S (not b) s
      ∙ ap (λ odd. cond odd 1 0) (again b (is_odd (count_in S s)) ∙ ap (λ n. cond (is_odd n) (not b) b) (sym more))
  | inr off ↦
      ap (λ n. observed (parity_step S) n s) (cond-false (has S e) (cond (nat_eq (cond b 1 0) 0) 1 0) (cond b 1 0) off) ∙ parity_from S b s
      ∙ ap (λ n. cond (cond (is_odd n) (not b) b) 1 0) (sym (count_same S e s off))
]

pub parity_is : (S s : List ℕ) → observed (parity_step S) 0 s ≡ cond (is_odd (count_in S s)) 1 0
parity_is S s = parity_from S false s ∙ itself (is_odd (count_in S s))
  where
    itself : (b : Bool) → number (cond b true false) ≡ number b
    itself true = refl
    itself false = refl
