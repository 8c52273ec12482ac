-- How many components offer an event, and when all of its owners do.
use Rattle.numbered_walks.proofs.Prelude.{◌≡◌, ℕ, zero, suc, ◌+◌, ◌<◌, ◌≤◌, inl, inr, Bool, true, false, not, nat_eq, IsTrue, List, [], ◌∷◌, length, take, set, get_or, refl, sym, ap, ◌∙◌, add-one, arith, first_so, second_so, cases_Bool, eq-eqb, eqb-true, false≢true, ne_eqb, or_cases, or_left, or_right, offers_by_test, test_by_offers, can_do, has, bit, component_at, is_agreed, offer_count, owner_count, AllCan, Numbered, OwnsItsSteps, first_terms, has_owner}

bit_most : (b : Bool) → bit b ≤ 1
bit_most true = omega arith
bit_most false = omega arith

pub at_most_all : (e : ℕ) (cs : List Numbered) (xs : List ℕ) → offer_count e cs xs ≤ length cs
at_most_all e [] xs = omega arith
at_most_all e (c ∷ cs) [] = omega arith
at_most_all e (c ∷ cs) (x ∷ xs) = let rest = at_most_all e cs xs in let one = bit_most (can_do c.table x e) in omega (arith, rest, one)

-- one component stands elsewhere
pub count_set : (e : ℕ) (cs : List Numbered) (xs : List ℕ) (i y : ℕ) → i < length cs → length xs ≡ length cs
    → offer_count e cs (set xs i y) + bit (can_do (component_at cs i).table (get_or xs i 0) e) ≡ offer_count e cs xs + bit (can_do (component_at cs i).table y e)
count_set e [] xs i y below same = absurd (omega (arith, below))
count_set e (c ∷ cs) [] i y below same = absurd (omega (arith, same))
count_set e (c ∷ cs) (x ∷ xs) zero y below same = omega arith
count_set e (c ∷ cs) (x ∷ xs) (suc i) y below same = let rest = count_set e cs xs i y (omega (arith, below)) (omega (arith, same)) in omega (arith, rest)

pub one_of_all : (e : ℕ) (cs : List Numbered) (xs : List ℕ) (i : ℕ) → i < length cs → length xs ≡ length cs → bit (can_do (component_at cs i).table (get_or xs i 0) e) ≤ offer_count e cs xs
one_of_all e [] xs i below same = absurd (omega (arith, below))
one_of_all e (c ∷ cs) [] i below same = absurd (omega (arith, same))
one_of_all e (c ∷ cs) (x ∷ xs) zero below same = omega arith
one_of_all e (c ∷ cs) (x ∷ xs) (suc i) below same = let rest = one_of_all e cs xs i (omega (arith, below)) (omega (arith, same)) in omega (arith, rest)

-- one component more at its first term
suc_first : (e k : ℕ) (cs : List Numbered) (c : Numbered) → k < length cs → c ≡ get_or cs k c → offer_count e (take (suc k) cs) (first_terms (take (suc k) cs)) ≡ offer_count e (take k cs) (first_terms (take k cs)) + bit (can_do c.table 0 e)
suc_first e k [] c below is = absurd (omega (arith, below))
suc_first e zero (d ∷ cs) c below is = let here : bit (can_do c.table 0 e) ≡ bit (can_do d.table 0 e) = ap (λ (b : Numbered). bit (can_do b.table 0 e)) is in omega (arith, here)
suc_first e (suc k) (d ∷ cs) c below is = let rest = suc_first e k cs c (omega (arith, below)) is in omega (arith, rest)

pub one_first : (e k : ℕ) (cs : List Numbered) (c : Numbered) → k < length cs → c ≡ get_or cs k c → offer_count e (take (k + 1) cs) (first_terms (take (k + 1) cs)) ≡ offer_count e (take k cs) (first_terms (take k cs)) + bit (can_do c.table 0 e)
one_first e k cs c below is = ap (λ (n : ℕ). offer_count e (take n cs) (first_terms (take n cs))) (add-one k) ∙ suc_first e k cs c below is

pub front_most : (e k : ℕ) (cs : List Numbered) → offer_count e (take k cs) (first_terms (take k cs)) ≤ length (take k cs)
front_most e k cs = at_most_all e (take k cs) (first_terms (take k cs))

-- an owner counts
pub owner_counts : (e : ℕ) (cs : List Numbered) (i : ℕ) → i < length cs → IsTrue (has (component_at cs i).alphabet e) → 1 ≤ owner_count e cs
owner_counts e [] i below h = absurd (omega (arith, below))
owner_counts e (c ∷ cs) zero below h = let one : bit (has c.alphabet e) ≡ 1 = ap bit h in omega (arith, one)
owner_counts e (c ∷ cs) (suc i) below h = let rest = owner_counts e cs i (omega (arith, below)) h in omega (arith, rest)

pub some_owner : (e : ℕ) (cs : List Numbered) → has_owner cs e ≡ true → 1 ≤ owner_count e cs
some_owner e [] h = absurd (false≢true h)
some_owner e (c ∷ cs) h = elim (or_cases (has c.alphabet e) (has_owner cs e) h) [
  | inl first ↦ let one : bit (has c.alphabet e) ≡ 1 = ap bit first in omega (arith, one)
  | inr rest ↦ let more = some_owner e cs rest in omega (arith, more)
]

an_owner : (e : ℕ) (cs : List Numbered) → (owner_count e cs ≡ 0 → ⊥) → has_owner cs e ≡ true
an_owner e [] some = absurd (some refl)
an_owner e (c ∷ cs) some = elim (cases_Bool (has c.alphabet e)) as (λ _. has_owner (c ∷ cs) e ≡ true) [
  | inl first ↦ or_left (has c.alphabet e) (has_owner cs e) first
  | inr not_first ↦ or_right (has c.alphabet e) (has_owner cs e) (an_owner e cs (λ none. some (let no : bit (has c.alphabet e) ≡ 0 = ap bit not_first in omega (arith, no, none))))
]

-- ---- all owners offer it
abbrev AllOwn : List Numbered → Type 0
AllOwn cs = (i : ℕ) → i < length cs → OwnsItsSteps (component_at cs i).alphabet (component_at cs i).table

others_own : (c : Numbered) (cs : List Numbered) → AllOwn (c ∷ cs) → AllOwn cs
others_own c cs own i below = own (suc i) (omega (arith, below))

first_owns : (c : Numbered) (cs : List Numbered) → AllOwn (c ∷ cs) → OwnsItsSteps c.alphabet c.table
first_owns c cs own = own 0 (omega arith)

-- what a component offers it has
no_more : (c : Numbered) (x e : ℕ) → OwnsItsSteps c.alphabet c.table → bit (can_do c.table x e) ≤ bit (has c.alphabet e)
no_more c x e own = elim (cases_Bool (can_do c.table x e)) as (λ _. bit (can_do c.table x e) ≤ bit (has c.alphabet e)) [
  | inl does ↦
      let o = offers_by_test c.table x e does in
      let one : bit (can_do c.table x e) ≡ 1 = ap bit does in
      let has_it : bit (has c.alphabet e) ≡ 1 = ap bit (own x e o.0 o.1) in
      omega (arith, one, has_it)
  | inr does_not ↦ let none : bit (can_do c.table x e) ≡ 0 = ap bit does_not in omega (arith, none)
]

fewer : (e : ℕ) (cs : List Numbered) (xs : List ℕ) → AllOwn cs → length xs ≡ length cs → offer_count e cs xs ≤ owner_count e cs
fewer e [] xs own same = omega arith
fewer e (c ∷ cs) [] own same = absurd (omega (arith, same))
fewer e (c ∷ cs) (x ∷ xs) own same = let rest = fewer e cs xs (others_own c cs own) (omega (arith, same)) in let one = no_more c x e (first_owns c cs own) in omega (arith, rest, one)

as_many_can : (e : ℕ) (cs : List Numbered) (xs : List ℕ) → AllOwn cs → length xs ≡ length cs → offer_count e cs xs ≡ owner_count e cs → AllCan e cs xs
as_many_can e [] [] own same count = tt
as_many_can e (c ∷ cs) (x ∷ xs) own same count =
    let one = no_more c x e (first_owns c cs own) in
    let rest = fewer e cs xs (others_own c cs own) (omega (arith, same)) in (
      (λ h. let it : bit (has c.alphabet e) ≡ 1 = ap bit h in offers_by_test c.table x e (is_one (can_do c.table x e) (omega (arith, one, rest, count, it)))),
      as_many_can e cs xs (others_own c cs own) (omega (arith, same)) (omega (arith, one, rest, count)),
    )
  where
    is_one : (b : Bool) → bit b ≡ 1 → b ≡ true
    is_one true h = refl
    is_one false h = absurd (omega (arith, h))
as_many_can e _ _ own same count = absurd (omega (arith, same))

can_as_many : (e : ℕ) (cs : List Numbered) (xs : List ℕ) → AllOwn cs → AllCan e cs xs → offer_count e cs xs ≡ owner_count e cs
can_as_many e [] [] own can = refl
can_as_many e (c ∷ cs) (x ∷ xs) own can =
    let rest = can_as_many e cs xs (others_own c cs own) can.1 in
    let one : bit (can_do c.table x e) ≡ bit (has c.alphabet e) = elim (cases_Bool (has c.alphabet e)) [
      | inl it ↦ ap bit (test_by_offers c.table x e (can.0 it)) ∙ sym (ap bit it)
      | inr not_it ↦ let low = no_more c x e (first_owns c cs own) in let none : bit (has c.alphabet e) ≡ 0 = ap bit not_it in omega (arith, low, none)
    ] in
    omega (arith, rest, one)
can_as_many e _ _ own can = absurd can

module _ (e : ℕ) (cs : List Numbered) (xs : List ℕ) (own : AllOwn cs) (same : length xs ≡ length cs) where
  pub agreed_can : is_agreed (owner_count e cs) (offer_count e cs xs) ≡ true → IsTrue (has_owner cs e) × AllCan e cs xs
  agreed_can h =
      let equal : offer_count e cs xs ≡ owner_count e cs = eqb-true (offer_count e cs xs) (owner_count e cs) (first_so (nat_eq (offer_count e cs xs) (owner_count e cs)) (not (nat_eq (owner_count e cs) 0)) h) in
      let some : not (nat_eq (owner_count e cs) 0) ≡ true = second_so (nat_eq (offer_count e cs xs) (owner_count e cs)) (not (nat_eq (owner_count e cs) 0)) h in
      (an_owner e cs (λ none. false≢true (sym (ap not (eq-eqb (owner_count e cs) 0 none)) ∙ some)), as_many_can e cs xs own same equal)

  pub can_agreed : IsTrue (has_owner cs e) × AllCan e cs xs → is_agreed (owner_count e cs) (offer_count e cs xs) ≡ true
  can_agreed can =
      let equal : nat_eq (offer_count e cs xs) (owner_count e cs) ≡ true = eq-eqb (offer_count e cs xs) (owner_count e cs) (can_as_many e cs xs own can.1) in
      let some = some_owner e cs can.0 in
      let not_none : nat_eq (owner_count e cs) 0 ≡ false = ne_eqb (owner_count e cs) 0 (λ none. omega (arith, some, none)) in
      rw (equal, not_none) refl
