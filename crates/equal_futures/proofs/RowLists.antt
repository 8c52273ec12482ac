-- Steps of a node whose events rise: each event stands once, and leads to a node.
use Rattle.equal_futures.proofs.Prelude.{◌≡◌, ℕ, zero, suc, get_or, ◌<◌, inl, inr, List, [], ◌∷◌, length, true, false, nat_eq, sym, ap, ◌∙◌, subst, arith, false_from_ne_true, StepsRise, eqb-true, eq-eqb, ne_eqb, false≢true, or_cases, cond-true, cond-false, cases_eq, BeginsAbove, is_possible, target}

-- each possible event is above what the first one is above
pub above : (n b : ℕ) (steps : List (ℕ × ℕ)) (e : ℕ) → StepsRise n steps → BeginsAbove b steps → is_possible steps e ≡ true → b < e
above n b [] e rise begins h = absurd (false≢true h)
above n b (step ∷ steps) e rise begins h =
    elim (or_cases (nat_eq step.0 e) (is_possible steps e) h) as (λ _. b < e) [
      | inl same ↦ subst (λ x. b < x) (eqb-true step.0 e same) begins
      | inr later ↦ let l : step.0 < e = above n step.0 steps e rise.2 rise.1 later in let k : b < step.0 = begins in omega arith
    ]

-- the first event doesn't come again
pub once : (n : ℕ) (step : ℕ × ℕ) (steps : List (ℕ × ℕ)) → StepsRise n (step ∷ steps) → is_possible steps step.0 ≡ false
once n step steps rise = false_from_ne_true (is_possible steps step.0) (λ h. let l : step.0 < step.0 = above n step.0 steps step.0 rise.2 rise.1 h in absurd (omega arith))

-- a possible event leads to one of the nodes
pub target_below : (n : ℕ) (steps : List (ℕ × ℕ)) (e : ℕ) → StepsRise n steps → is_possible steps e ≡ true → target steps e < n
target_below n [] e rise h = absurd (false≢true h)
target_below n (step ∷ steps) e rise h =
    elim (cases_eq step.0 e) as (λ _. target (step ∷ steps) e < n) [
      | inl same ↦ subst (λ x. x < n) (sym (cond-true (nat_eq step.0 e) step.1 (target steps e) (eq-eqb step.0 e same))) rise.0
      | inr other ↦
          let later : is_possible steps e ≡ true = elim (or_cases (nat_eq step.0 e) (is_possible steps e) h) as (λ _. is_possible steps e ≡ true) [ inl k ↦ absurd (other (eqb-true step.0 e k)) | inr k ↦ k ] in
          subst (λ x. x < n) (sym (cond-false (nat_eq step.0 e) step.1 (target steps e) (ne_eqb step.0 e other))) (target_below n steps e rise.2 later)
    ]

-- so does each step that is listed
step_below : (n : ℕ) (steps : List (ℕ × ℕ)) → StepsRise n steps → (k : ℕ) (d : ℕ × ℕ) → k < length steps → (get_or steps k d).1 < n
step_below n [] rise k d h = absurd (omega arith)
step_below n (step ∷ steps) rise zero d h = rise.0
step_below n (step ∷ steps) rise (suc k) d h = step_below n steps rise.2 k d (omega arith)

pub read_below : (n : ℕ) (steps items : List (ℕ × ℕ)) → items ≡ steps → StepsRise n steps → (k : ℕ) (step : ℕ × ℕ) → k < length items → step ≡ get_or items k step → step.1 < n
read_below n steps items is rise k step h read =
    subst (λ (s : ℕ × ℕ). s.1 < n) (sym (read ∙ ap (λ (xs : List (ℕ × ℕ)). get_or xs k step) is)) (step_below n steps rise k step (rw is at h))
