-- Sets of events, and tests of all members of a list.
use Rattle.resource_conditions.proofs.Prelude.{◌≡◌, ℕ, suc, ◌<◌, inl, inr, List, [], ◌∷◌, length, get_or, Bool, true, false, not, ◌||◌, nat_eq, refl, sym, subst, ◌∙◌, arith, eq-eqb, list_all, list_any, cases_Bool, and_from, and_parts, or_cases, or_left, or_right, eqb-true, both_ways, false≢true, list_all_at, has, inter_of, is_possible, and_second_false, has-inter_of}

-- ---- members

-- the members of both
pub in_both : (M N : List ℕ) (e : ℕ) → has M e ≡ true → has N e ≡ true → has (inter_of M N) e ≡ true
in_both M N e x y = has-inter_of M N e ∙ and_from (has M e) (has N e) x y

pub of_both : (M N : List ℕ) (e : ℕ) → has (inter_of M N) e ≡ true → (has M e ≡ true) × (has N e ≡ true)
of_both M N e x = and_parts (has M e) (has N e) (sym (has-inter_of M N e) ∙ x)

pub inter_none : (M : List ℕ) → inter_of M [] ≡ []
inter_none [] = refl
inter_none (x ∷ M) = inter_none M

-- ---- tests of all

-- of each event that is possible
pub all_possible : (test : ℕ → Bool) (next : List (ℕ × ℕ)) (e : ℕ) → list_all (λ (step : ℕ × ℕ). test step.0) next ≡ true → is_possible next e ≡ true → test e ≡ true
all_possible test [] e all h = absurd (false≢true h)
all_possible test (step ∷ steps) e all h =
    let p = and_parts (test step.0) (list_all (λ (s : ℕ × ℕ). test s.0) steps) all in
    elim (or_cases (nat_eq step.0 e) (is_possible steps e) h) [
      | inl same ↦ subst (λ x. test x ≡ true) (eqb-true step.0 e same) p.0
      | inr later ↦ all_possible test steps e p.1 later
    ]

pub some_possible : (test : ℕ → Bool) (next : List (ℕ × ℕ)) → list_all (λ (step : ℕ × ℕ). test step.0) next ≡ false → (e : ℕ) × (is_possible next e ≡ true) × (test e ≡ false)
some_possible test [] none = absurd (false≢true (sym none))
some_possible test (step ∷ steps) none = elim (cases_Bool (test step.0)) [
  | inl passes ↦
      let r = some_possible test steps (and_second_false (test step.0) (list_all (λ (s : ℕ × ℕ). test s.0) steps) none passes) in
      (r.0, or_right (nat_eq step.0 r.0) (is_possible steps r.0) r.1, r.2)
  | inr fails ↦ (step.0, or_left (nat_eq step.0 step.0) (is_possible steps step.0) (eq-eqb step.0 step.0 refl), fails)
]

-- of each acceptance
pub all_at : (test : List ℕ → Bool) (Ms : List (List ℕ)) (k : ℕ) → k < length Ms → list_all test Ms ≡ true → test (get_or Ms k []) ≡ true
all_at test Ms k h all = elim (cases_Bool (test (get_or Ms k []))) [ inl passes ↦ passes | inr fails ↦ absurd (both_ways (list_all test Ms) (list_all_at test Ms k [] h fails) all) ]

pub some_at : (test : List ℕ → Bool) (Ms : List (List ℕ)) → list_all test Ms ≡ false → (k : ℕ) × (k < length Ms) × (test (get_or Ms k []) ≡ false)
some_at test [] none = absurd (false≢true (sym none))
some_at test (M ∷ Ms) none = elim (cases_Bool (test M)) [
  | inl passes ↦ let r = some_at test Ms (and_second_false (test M) (list_all test Ms) none passes) in (suc r.0, (let h : r.0 < length Ms = r.1 in omega arith), r.2)
  | inr fails ↦ (0, omega arith, fails)
]

pub any_at : (test : List ℕ → Bool) (Ms : List (List ℕ)) → list_any test Ms ≡ true → (k : ℕ) × (k < length Ms) × (test (get_or Ms k []) ≡ true)
any_at test [] some = absurd (false≢true some)
any_at test (M ∷ Ms) some = elim (or_cases (test M) (list_any test Ms) some) [
  | inl here ↦ (0, omega arith, here)
  | inr later ↦ let r = any_at test Ms later in (suc r.0, (let h : r.0 < length Ms = r.1 in omega arith), r.2)
]

-- ---- implications

pub either_of : (a b : Bool) → (not a || b) ≡ true → a ≡ true → b ≡ true
either_of true b h k = h
either_of false b h k = absurd (false≢true k)

pub neither_of : (a b : Bool) → (not a || b) ≡ false → (a ≡ true) × (b ≡ false)
neither_of true b h = (refl, h)
neither_of false b h = absurd (false≢true (sym h))
