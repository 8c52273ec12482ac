-- The steps of a raw table are those that it lists.
use Rattle.std.proofs.Common.{◌≡◌, ℕ, suc, ◌<◌, Bool, true, ◌&&◌, nat_eq, IsTrue, Some, List, [], ◌∷◌, length, get_or, refl, sym, ap, ◌∙◌, inl, inr}
use Rattle.std.specs.Prelude.{slice_get}
use Rattle.csp_base.specs.Standard.{first_so, second_so, list_any}
use Rattle.csp_base.proofs.Standard.{eq-eqb, eqb-true, or_cases, false≢true, list_any_at, any_passes_from_place}
use Rattle.csp_tables.specs.Prelude.{silent, visible, RawTable, RawStep, has_silent, has_step}

-- a list in which some element passes has such an element in some place
pub record Passes {X : Type 0} (test : X → Bool) (xs : List X) : Type 0 where
  pub place : ℕ
  pub element : X
  pub at : slice_get xs place ≡ Some element
  pub passes : test element ≡ true

pub passing : {X : Type 0} (test : X → Bool) (xs : List X) → list_any test xs ≡ true → Passes test xs
passing test [] h = absurd (false≢true h)
passing test (x ∷ xs) h = elim (or_cases (test x) (list_any test xs) h) as (λ _. Passes test (x ∷ xs)) [
  | inl p ↦ record { place = 0; element = x; at = refl; passes = p }
  | inr q ↦ let rest = passing test xs q in record { place = suc rest.place; element = rest.element; at = rest.at; passes = rest.passes }
]

same : (n : ℕ) → nat_eq n n ≡ true
same n = eq-eqb n n refl

pub silent_listed : (raw : RawTable) (s t : ℕ) → RawStep raw s silent t → IsTrue (has_silent raw s t)
silent_listed raw s t step =
    let first : nat_eq s s ≡ true = same s in
    let second : nat_eq t t ≡ true = same t in
    any_passes_from_place (λ (p : ℕ × ℕ). nat_eq s p.0 && nat_eq t p.1) raw.silent step.0 (s, t) step.1 (rw (first, second) refl)

-- the pair that a test for it finds
pair_is : (s t : ℕ) (y : ℕ × ℕ) → (nat_eq s y.0 && nat_eq t y.1) ≡ true → y ≡ (s, t)
pair_is s t y passes =
    let a : y.0 ≡ s = sym (eqb-true s y.0 (first_so (nat_eq s y.0) (nat_eq t y.1) passes)) in
    let b : y.1 ≡ t = sym (eqb-true t y.1 (second_so (nat_eq s y.0) (nat_eq t y.1) passes)) in
    λ i. (a i, b i)

pub listed_silent : (raw : RawTable) (s t : ℕ) → IsTrue (has_silent raw s t) → RawStep raw s silent t
listed_silent raw s t h =
    let p = passing (λ (p : ℕ × ℕ). nat_eq s p.0 && nat_eq t p.1) raw.silent h in
    (p.place, p.at ∙ ap Some (pair_is s t p.element p.passes))

pub step_listed : (raw : RawTable) (s e t : ℕ) → RawStep raw s (visible e) t → IsTrue (has_step raw s e t)
step_listed raw s e t step =
    let first : nat_eq s s ≡ true = same s in
    let second : nat_eq e e ≡ true = same e in
    let third : nat_eq t t ≡ true = same t in
    any_passes_from_place (λ (p : ℕ × ℕ × ℕ). nat_eq s p.0 && nat_eq e p.1 && nat_eq t p.2) raw.steps step.0 (s, e, t) step.1 (rw (first, second, third) refl)

triple_is : (s e t : ℕ) (y : ℕ × ℕ × ℕ) → (nat_eq s y.0 && nat_eq e y.1 && nat_eq t y.2) ≡ true → y ≡ (s, e, t)
triple_is s e t y passes =
    let front : (nat_eq s y.0 && nat_eq e y.1) ≡ true = first_so (nat_eq s y.0 && nat_eq e y.1) (nat_eq t y.2) passes in
    let a : y.0 ≡ s = sym (eqb-true s y.0 (first_so (nat_eq s y.0) (nat_eq e y.1) front)) in
    let b : y.1 ≡ e = sym (eqb-true e y.1 (second_so (nat_eq s y.0) (nat_eq e y.1) front)) in
    let d : y.2 ≡ t = sym (eqb-true t y.2 (second_so (nat_eq s y.0 && nat_eq e y.1) (nat_eq t y.2) passes)) in
    λ i. (a i, b i, d i)

pub listed_step : (raw : RawTable) (s e t : ℕ) → IsTrue (has_step raw s e t) → RawStep raw s (visible e) t
listed_step raw s e t h =
    let p = passing (λ (p : ℕ × ℕ × ℕ). nat_eq s p.0 && nat_eq e p.1 && nat_eq t p.2) raw.steps h in
    (p.place, p.at ∙ ap Some (triple_is s e t p.element p.passes))

-- what stands in a place of the lists
pub silent_at : (raw : RawTable) (k : ℕ) → k < length raw.silent → IsTrue (has_silent raw (get_or raw.silent k (0, 0)).0 (get_or raw.silent k (0, 0)).1)
silent_at raw k below =
    let step : ℕ × ℕ = get_or raw.silent k (0, 0) in
    let first : nat_eq step.0 step.0 ≡ true = same step.0 in
    let second : nat_eq step.1 step.1 ≡ true = same step.1 in
    list_any_at (λ (s : ℕ × ℕ). nat_eq step.0 s.0 && nat_eq step.1 s.1) raw.silent k (0, 0) below (rw (first, second) refl)

pub step_at : (raw : RawTable) (k : ℕ) → k < length raw.steps → IsTrue (has_step raw (get_or raw.steps k (0, 0, 0)).0 (get_or raw.steps k (0, 0, 0)).1 (get_or raw.steps k (0, 0, 0)).2)
step_at raw k below =
    let step : ℕ × ℕ × ℕ = get_or raw.steps k (0, 0, 0) in
    let first : nat_eq step.0 step.0 ≡ true = same step.0 in
    let second : nat_eq step.1 step.1 ≡ true = same step.1 in
    let third : nat_eq step.2 step.2 ≡ true = same step.2 in
    list_any_at (λ (s : ℕ × ℕ × ℕ). nat_eq step.0 s.0 && nat_eq step.1 s.1 && nat_eq step.2 s.2) raw.steps k (0, 0, 0) below (rw (first, second, third) refl)
