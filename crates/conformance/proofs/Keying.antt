-- Places of events in an alphabet, found one after another.
use Rattle.conformance.proofs.Prelude.{◌≡◌, ℕ, suc, ◌<◌, ◌≤◌, inl, inr, List, [], ◌∷◌, length, get_or, IsTrue, nat_eq, sym, ap, subst, ◌∙◌, arith, slice_index, eqb-true, false≢true, or_cases, has, IsOneToOne}

-- At the number of the event in the place k stands a place at which it is.
pub record IsPlace (events places : List ℕ) (k : ℕ) : Type 0 where
  pub here : get_or events (slice_index places (get_or events k 0)) 0 ≡ get_or events k 0

-- the same of each event before the place n
abbrev pub ArePlaces : List ℕ → ℕ → List ℕ → Type 0
ArePlaces events n places = (k : ℕ) → k < n → IsPlace events places k

-- where a member stands
member_place : (xs : List ℕ) (e : ℕ) → IsTrue (has xs e) → (k : ℕ) × (k < length xs) × (get_or xs k 0 ≡ e)
member_place [] e h = absurd (false≢true h)
member_place (x ∷ xs) e h = elim (or_cases (nat_eq x e) (has xs e) h) [
  | inl here ↦ (0, omega arith, eqb-true x e here)
  | inr later ↦ let l = member_place xs e later in (suc l.0, (let m : l.0 < length xs = l.1 in omega arith), l.2)
]

pub one_to_one : (events places : List ℕ) (n : ℕ) → length events ≤ n → ArePlaces events n places → IsOneToOne events (slice_index places)
one_to_one events places n all are e f h k same =
    let i = member_place events e h in
    let j = member_place events f k in
    sym (at e i) ∙ ap (λ p. get_or events p 0) same ∙ at f j
  where
    at : (e : ℕ) → ((k : ℕ) × (k < length events) × (get_or events k 0 ≡ e)) → get_or events (slice_index places e) 0 ≡ e
    at e i = subst (λ x. get_or events (slice_index places x) 0 ≡ x) i.2 (are i.0 (omega (arith, i.1, all))).here
