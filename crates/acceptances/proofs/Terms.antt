-- The sets of the stable terms of a table, and what those terms offer.
use Rattle.acceptances.proofs.Prelude.{◌≡◌, ℕ, suc, ◌+◌, ◌<◌, ◌⊎◌, inl, inr, Bool, true, false, ◌&&◌, ◌||◌, nat_eq, cond, Some, List, [], ◌∷◌, ◌++◌, length, get_or, set, take, refl, sym, ap, subst, ◌∙◌, arith, list_any, All, IsStrictlyIncreasing, first_so, second_so, eq-eqb, eqb-true, false≢true, or_left, or_right, or_cases, cases_Bool, cases_eq, ne_eqb, get_or_default, get_or-set_same, get_or-set_other, length-set, list_any_more, any_passes_from_place, or_comm, has, with_member, has-with_member, increasing-with_member, silent, Stable, Offers, RawTable, RawStep, HasRawForm, is_unstable, can_do, offers_at, or_none, passing, silent_at, step_at, same_number}
use Rattle.acceptances.proofs.Member.{Member, member_of_any}

same : (n : ℕ) → nat_eq n n ≡ true
same n = eq-eqb n n refl

-- ---- the tests of a table
pub unstable_by_step : (raw : RawTable) (n t : ℕ) → RawStep raw n silent t → is_unstable raw n ≡ true
unstable_by_step raw n t step = any_passes_from_place (λ (p : ℕ × ℕ). nat_eq n p.0) raw.silent step.0 (n, t) step.1 (same n)

pub stable_by_test : (raw : RawTable) (n : ℕ) → is_unstable raw n ≡ false → Stable (RawStep raw) n
stable_by_test raw n test t step = false≢true (sym test ∙ unstable_by_step raw n t step)

pub test_by_stable : (raw : RawTable) (n : ℕ) → Stable (RawStep raw) n → is_unstable raw n ≡ false
test_by_stable raw n stable = elim (cases_Bool (is_unstable raw n)) as (λ _. is_unstable raw n ≡ false) [
  | inl holds ↦
      let p = passing (λ (p : ℕ × ℕ). nat_eq n p.0) raw.silent holds in
      let e : p.element.0 ≡ n = sym (eqb-true n p.element.0 p.passes) in
      let pair : p.element ≡ (n, p.element.1) = λ i. (e i, p.element.1) in
      absurd (stable p.element.1 (p.place, p.at ∙ ap Some pair))
  | inr fails ↦ fails
]

pub offers_by_test : (raw : RawTable) (n e : ℕ) → can_do raw n e ≡ true → Offers (RawStep raw) n e
offers_by_test raw n e test =
    let p = passing (λ (p : ℕ × ℕ × ℕ). nat_eq n p.0 && nat_eq e p.1) raw.steps test in
    let a : p.element.0 ≡ n = sym (eqb-true n p.element.0 (first_so (nat_eq n p.element.0) (nat_eq e p.element.1) p.passes)) in
    let b : p.element.1 ≡ e = sym (eqb-true e p.element.1 (second_so (nat_eq n p.element.0) (nat_eq e p.element.1) p.passes)) in
    let triple : p.element ≡ (n, e, p.element.2) = λ i. (a i, b i, p.element.2) in
    (p.element.2, (p.place, p.at ∙ ap Some triple))

pub test_by_offers : (raw : RawTable) (n e : ℕ) → Offers (RawStep raw) n e → can_do raw n e ≡ true
test_by_offers raw n e offers =
    let first : nat_eq n n ≡ true = same n in
    let second : nat_eq e e ≡ true = same e in
    any_passes_from_place (λ (p : ℕ × ℕ × ℕ). nat_eq n p.0 && nat_eq e p.1) raw.steps offers.1.0 (n, e, offers.0) offers.1.1 (rw (first, second) refl)

-- ---- the sets of terms without a mark
pub record Source (unstable : List Bool) (sets : List (List ℕ)) (terms M : List ℕ) : Type 0 where
  pub term : ℕ
  pub listed : has terms term ≡ true
  pub unmarked : get_or unstable term false ≡ false
  pub is : M ≡ get_or sets term []

first_offer : (unstable : List Bool) (sets : List (List ℕ)) (n : ℕ) (rest : List (List ℕ)) (M : List ℕ) (b : Bool) → b ≡ get_or unstable n false → Member M (cond b [] (get_or sets n [] ∷ []) ++ rest) → ((get_or unstable n false ≡ false) × (M ≡ get_or sets n [])) ⊎ Member M rest
first_offer unstable sets n rest M true mark h = inr h
first_offer unstable sets n rest M false mark (inl e) = inl (sym mark, e)
first_offer unstable sets n rest M false mark (inr h) = inr h

pub source : (unstable : List Bool) (sets : List (List ℕ)) (terms M : List ℕ) → Member M (offers_at unstable sets terms) → Source unstable sets terms M
source unstable sets [] M h = absurd h
source unstable sets (n ∷ ns) M h = elim (first_offer unstable sets n (offers_at unstable sets ns) M (get_or unstable n false) refl h) as (λ _. Source unstable sets (n ∷ ns) M) [
  | inl p ↦ record { term = n; listed = or_left (nat_eq n n) (has ns n) (same n); unmarked = p.0; is = p.1 }
  | inr rest ↦ let s = source unstable sets ns M rest in record { term = s.term; listed = or_right (nat_eq n s.term) (has ns s.term) s.listed; unmarked = s.unmarked; is = s.is }
]

into_first : (M : List ℕ) (S : List ℕ) (rest : List (List ℕ)) (b : Bool) → ((b ≡ false) × (M ≡ S)) ⊎ Member M rest → Member M (cond b [] (S ∷ []) ++ rest)
into_first M S rest true (inl p) = absurd (false≢true (sym p.0))
into_first M S rest false (inl p) = inl p.1
into_first M S rest true (inr h) = h
into_first M S rest false (inr h) = inr h

pub listed_offer : (unstable : List Bool) (sets : List (List ℕ)) (terms : List ℕ) (n : ℕ) → has terms n ≡ true → get_or unstable n false ≡ false → Member (get_or sets n []) (offers_at unstable sets terms)
listed_offer unstable sets [] n listed unmarked = absurd (false≢true listed)
listed_offer unstable sets (m ∷ ms) n listed unmarked = elim (or_cases (nat_eq m n) (has ms n) listed) as (λ _. Member (get_or sets n []) (offers_at unstable sets (m ∷ ms))) [
  | inl first ↦
      let e : m ≡ n = eqb-true m n first in
      into_first (get_or sets n []) (get_or sets m []) (offers_at unstable sets ms) (get_or unstable m false) (inl (ap (λ k. get_or unstable k false) e ∙ unmarked, ap (λ k. get_or sets k []) (sym e)))
  | inr rest ↦ into_first (get_or sets n []) (get_or sets m []) (offers_at unstable sets ms) (get_or unstable m false) (inr (listed_offer unstable sets ms n rest unmarked))
]

-- each of the terms is one of the table
pub within_of : (count : ℕ) (terms : List ℕ) (n : ℕ) → All (λ k. k < count) terms → has terms n ≡ true → n < count
within_of count terms n all listed =
    let p = member_of_any (λ (k : ℕ). nat_eq k n) terms listed in
    let e : p.0 ≡ n = eqb-true p.0 n p.2 in
    rw e at (below_of count terms p.0 all p.1)
  where
    below_of : (count : ℕ) (terms : List ℕ) (n : ℕ) → All (λ k. k < count) terms → Member n terms → n < count
    below_of count [] n all h = absurd h
    below_of count (m ∷ ms) n all (inl e) = rw e (all 0 0 (omega arith))
    below_of count (m ∷ ms) n all (inr h) = below_of count ms n (λ k d below. all (suc k) d (omega arith)) h

-- ---- the loops over the steps
pub silent_from : (raw : RawTable) → HasRawForm raw → (xs : List (ℕ × ℕ)) → xs ≡ raw.silent → (k : ℕ) → k < length xs → (get_or xs k (0, 0)).0 < raw.count
silent_from raw form xs e k below =
    let within : k < length raw.silent = rw e at below in
    rw e (form.silent_within (get_or raw.silent k (0, 0)).0 (get_or raw.silent k (0, 0)).1 (silent_at raw k within)).0

pub step_from : (raw : RawTable) → HasRawForm raw → (xs : List (ℕ × ℕ × ℕ)) → xs ≡ raw.steps → (k : ℕ) (x : ℕ × ℕ × ℕ) → k < length xs → x ≡ get_or xs k x → x.0 < raw.count
step_from raw form xs e k x below is =
    let within : k < length raw.steps = rw e at below in
    let same_step : x ≡ get_or raw.steps k (0, 0, 0) = is ∙ get_or_default xs k x (0, 0, 0) below ∙ ap (λ (ys : List (ℕ × ℕ × ℕ)). get_or ys k (0, 0, 0)) e in
    subst (λ (y : ℕ × ℕ × ℕ). y.0 < raw.count) (sym same_step) (form.steps_within (get_or raw.steps k (0, 0, 0)).0 (get_or raw.steps k (0, 0, 0)).1 (get_or raw.steps k (0, 0, 0)).2 (step_at raw k within)).0

-- the events of a term, once one more event is in the set of the term `from`
pub set_more : (sets : List (List ℕ)) (from event n e : ℕ) → from < length sets → has (get_or (set sets from (with_member event (get_or sets from []))) n []) e ≡ (has (get_or sets n []) e || (nat_eq n from && nat_eq e event))
set_more sets from event n e within =
    elim (cases_eq n from) as (λ _. has (get_or (set sets from (with_member event (get_or sets from []))) n []) e ≡ (has (get_or sets n []) e || (nat_eq n from && nat_eq e event))) [
      | inl there ↦
          let read : get_or (set sets from (with_member event (get_or sets from []))) from [] ≡ with_member event (get_or sets from []) = get_or-set_same sets from (with_member event (get_or sets from [])) [] within in
          let members : has (with_member event (get_or sets from [])) e ≡ (nat_eq event e || has (get_or sets from []) e) = has-with_member event (get_or sets from []) e in
          let test : nat_eq from from ≡ true = same from in
          rw (there, read, members, test, same_number event e) (or_comm (nat_eq e event) (has (get_or sets from []) e))
      | inr other ↦
          let read : get_or (set sets from (with_member event (get_or sets from []))) n [] ≡ get_or sets n [] = get_or-set_other sets from n (with_member event (get_or sets from [])) [] other in
          let test : nat_eq n from ≡ false = ne_eqb n from other in
          rw (read, test) (or_none (has (get_or sets n []) e))
    ]

pub rising_more : (sets : List (List ℕ)) (from event n : ℕ) → from < length sets → IsStrictlyIncreasing (get_or sets n []) → IsStrictlyIncreasing (get_or sets from []) → IsStrictlyIncreasing (get_or (set sets from (with_member event (get_or sets from []))) n [])
rising_more sets from event n within before before_from =
    elim (cases_eq n from) as (λ _. IsStrictlyIncreasing (get_or (set sets from (with_member event (get_or sets from []))) n [])) [
      | inl there ↦
          let read : get_or (set sets from (with_member event (get_or sets from []))) from [] ≡ with_member event (get_or sets from []) = get_or-set_same sets from (with_member event (get_or sets from [])) [] within in
          subst (λ k. IsStrictlyIncreasing (get_or (set sets from (with_member event (get_or sets from []))) k [])) (sym there) (subst IsStrictlyIncreasing (sym read) (increasing-with_member event (get_or sets from []) before_from))
      | inr other ↦
          let read : get_or (set sets from (with_member event (get_or sets from []))) n [] ≡ get_or sets n [] = get_or-set_other sets from n (with_member event (get_or sets from [])) [] other in
          subst IsStrictlyIncreasing (sym read) before
    ]

-- one more step of the table, as the loop over the steps takes it
module _ (sets new : List (List ℕ)) (xs : List (ℕ × ℕ × ℕ)) (i : ℕ) (x : ℕ × ℕ × ℕ) (below : i < length xs) (is : x ≡ get_or xs i x) (within : x.0 < length sets) (is_new : new ≡ set sets x.0 (with_member x.1 (get_or sets x.0 []))) where
  pub events_after : (n e : ℕ) → has (get_or sets n []) e ≡ list_any (λ step. nat_eq n step.0 && nat_eq e step.1) (take i xs) → has (get_or new n []) e ≡ list_any (λ step. nat_eq n step.0 && nat_eq e step.1) (take (i + 1) xs)
  events_after n e before =
      ap (λ (ss : List (List ℕ)). has (get_or ss n []) e) is_new ∙ set_more sets x.0 x.1 n e within
      ∙ ap (λ (b : Bool). b || (nat_eq n x.0 && nat_eq e x.1)) before
      ∙ ap (λ (y : ℕ × ℕ × ℕ). list_any (λ (step : ℕ × ℕ × ℕ). nat_eq n step.0 && nat_eq e step.1) (take i xs) || (nat_eq n y.0 && nat_eq e y.1)) is
      ∙ sym (list_any_more (λ (step : ℕ × ℕ × ℕ). nat_eq n step.0 && nat_eq e step.1) xs i x below)

  pub rising_after : (n : ℕ) → IsStrictlyIncreasing (get_or sets n []) → IsStrictlyIncreasing (get_or sets x.0 []) → IsStrictlyIncreasing (get_or new n [])
  rising_after n before before_from = subst (λ (ss : List (List ℕ)). IsStrictlyIncreasing (get_or ss n [])) (sym is_new) (rising_more sets x.0 x.1 n within before before_from)

  pub length_after : length new ≡ length sets
  length_after = ap length is_new ∙ length-set sets x.0 (with_member x.1 (get_or sets x.0 []))
