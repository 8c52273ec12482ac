-- Events that a set holds already: where the first and the last of a row of events stand as far apart as they are, all between them are members.
use Rattle.value_operators.proofs.Prelude.{◌≡◌, ℕ, zero, suc, ◌+◌, ◌-◌, ◌<◌, ◌≤◌, List, [], ◌∷◌, Option, Some, None, Ok, Err, Bool, true, false, cond, length, refl, ap, subst, sym, ◌∙◌, arith, ◌||◌, slice_get, ints, kind_of, less, same, AllAbove, AllOfKind, IsAtomSet, IsOneKind, IsRising, fits, has_atom, one_more, place_of, with_atom, Atom, IsRising-with_atom, has-with_atom, same_set, same_exact, same_itself, added, all_added, limited, and_then, Kind, events_from, false≢true, or_right, at_place, MOST_ELEMENTS}
use Rattle.csp_atoms.specs.declared.atom.Atom.TheVariants as atom
use Rattle.value_operators.proofs.SetSteps.{limited_few}

-- what comes after an event is an event with a higher number
event_above : (e : ℕ) (y : Atom) → less (atom.Event e) y ≡ true → (d : ℕ) × (y ≡ atom.Event d) × (e < d)
unfolding less
event_above e (atom.Num n) h = absurd (false≢true h)
event_above e (atom.Truth b) h = absurd (false≢true h)
event_above e (atom.Const k) h = absurd (false≢true h)
event_above e (atom.Event d) h = (d, refl, grind (arith, ints))

abbrev an_event : ℕ → Atom
an_event e = atom.Event e

event_number : (d m : ℕ) → an_event d ≡ an_event m → d ≡ m
event_number d m h = cc

abbrev at_most : Option Atom → Option Atom
at_most o = o

read_first : (y a : Atom) → at_most (Some y) ≡ Some a → y ≡ a
read_first y a h = cc

-- an event that stands k places after another is higher by more than k
far_above : (e m k : ℕ) (xs : List Atom) → AllAbove (atom.Event e) xs → IsRising xs → slice_get xs k ≡ Some (atom.Event m) → e + k < m
far_above e m k [] above rise h = absurd (cc)
far_above e m zero (y ∷ ys) above rise h =
    let next = event_above e y above.0 in
    let same : next.0 ≡ m = event_number next.0 m (sym next.1 ∙ read_first y (atom.Event m) h) in
    let lt : e < next.0 = next.2 in
    omega arith
far_above e m (suc k) (y ∷ ys) above rise h =
    let next = event_above e y above.0 in
    let lt : e < next.0 = next.2 in
    let more : next.0 + k < m = far_above next.0 m k ys (subst (λ a. AllAbove a ys) next.1 rise.0) rise.1 h in
    omega arith

-- a row of events from the first of a list on
row_held : (e k i : ℕ) (xs : List Atom) → AllAbove (atom.Event e) xs → IsRising xs → slice_get (atom.Event e ∷ xs) k ≡ Some (atom.Event (e + k)) → i ≤ k → has_atom (atom.Event e ∷ xs) (atom.Event (e + i)) ≡ true
row_held e k zero xs above rise h le =
    let same_event : e + 0 ≡ e = omega arith in
    ap (λ d. same (atom.Event e) (atom.Event d) || has_atom xs (atom.Event d)) same_event ∙ ap (λ b. b || has_atom xs (atom.Event e)) (same_itself (atom.Event e))
row_held e zero (suc i) xs above rise h le = absurd (omega arith)
row_held e (suc k) (suc i) [] above rise h le = absurd (cc)
row_held e (suc k) (suc i) (y ∷ ys) above rise h le =
    let next = event_above e y above.0 in
    let lt : e < next.0 = next.2 in
    let rest : AllAbove (atom.Event next.0) ys = subst (λ a. AllAbove a ys) next.1 rise.0 in
    let here : slice_get (atom.Event next.0 ∷ ys) k ≡ Some (atom.Event (e + suc k)) = ap (λ a. slice_get (a ∷ ys) k) (sym next.1) ∙ h in
    let is_next : next.0 ≡ e + 1 = next_is next.0 k ys rest rise.1 here lt in
    let place : e + suc k ≡ next.0 + k = omega arith in
    let wanted : e + suc i ≡ next.0 + i = omega arith in
    let held : has_atom (atom.Event next.0 ∷ ys) (atom.Event (next.0 + i)) ≡ true = row_held next.0 k i ys rest rise.1 (here ∙ ap (λ d. Some (atom.Event d)) place) (omega arith) in
    or_right (same (atom.Event e) (atom.Event (e + suc i))) (has_atom (y ∷ ys) (atom.Event (e + suc i)))
    (ap (λ d. has_atom (y ∷ ys) (atom.Event d)) wanted ∙ (ap (λ a. has_atom (a ∷ ys) (atom.Event (next.0 + i))) next.1 ∙ held))
  where
    next_is : (d k : ℕ) (ys : List Atom) → AllAbove (atom.Event d) ys → IsRising ys → slice_get (atom.Event d ∷ ys) k ≡ Some (atom.Event (e + suc k)) → e < d → d ≡ e + 1
    next_is d zero ys above rise h lt = let same : d ≡ e + 1 = event_number d (e + 1) (read_first (atom.Event d) (atom.Event (e + 1)) h) in same
    next_is d (suc j) ys above rise h lt = let far : d + j < e + suc (suc j) = far_above d (e + suc (suc j)) j ys above rise h in omega arith

abbrev a_place : ℕ → Option ℕ
a_place n = Some n

same_place : (p q : ℕ) → a_place p ≡ a_place q → p ≡ q
same_place p q h = cc

place_after : (o : Option ℕ) (p : ℕ) → one_more o ≡ Some p → (q : ℕ) × (o ≡ Some q) × (p ≡ q + 1)
place_after None p h = absurd (cc)
place_after (Some q) p h = (q, refl, sym (same_place (q + 1) p h))

rest_held : (e p i : ℕ) (xs : List Atom) (k : ℕ) → IsRising xs → place_of xs (atom.Event e) ≡ Some p → slice_get xs (p + k) ≡ Some (atom.Event (e + k)) → i ≤ k → has_atom xs (atom.Event (e + i)) ≡ true
rest_held e p i [] k rise h at le = absurd (cc)
rest_held e p i (x ∷ xs) k rise h at le = at_first (λ q. rest_held e q i xs k rise.1) (same x (atom.Event e)) refl h
  where
    at_first : ((q : ℕ) → place_of xs (atom.Event e) ≡ Some q → slice_get xs (q + k) ≡ Some (atom.Event (e + k)) → i ≤ k → has_atom xs (atom.Event (e + i)) ≡ true) → (b : Bool) → same x (atom.Event e) ≡ b → cond b (Some 0) (one_more (place_of xs (atom.Event e))) ≡ Some p → has_atom (x ∷ xs) (atom.Event (e + i)) ≡ true
    at_first later true is h =
        let first : x ≡ atom.Event e = same_exact x (atom.Event e) is in
        let from_first : p + k ≡ k = (let none : 0 ≡ p = same_place 0 p h in omega arith) in
        ap (λ a. has_atom (a ∷ xs) (atom.Event (e + i))) first ∙
        row_held e k i xs (subst (λ a. AllAbove a xs) first rise.0) rise.1 (ap (λ a. slice_get (a ∷ xs) k) (sym first) ∙ (ap (λ j. slice_get (x ∷ xs) j) (sym from_first) ∙ at)) le
    at_first later false is h =
        let after = place_after (place_of xs (atom.Event e)) p h in
        let next : p + k ≡ suc (after.0 + k) = (let q : p ≡ after.0 + 1 = after.2 in omega arith) in
        or_right (same x (atom.Event (e + i))) (has_atom xs (atom.Event (e + i))) (later after.0 after.1 (ap (λ j. slice_get (x ∷ xs) j) (sym next) ∙ at) le)

-- a member that is added changes nothing
still_has : (xs : List Atom) (a z : Atom) → has_atom xs a ≡ true → (b : Bool) → same a z ≡ b → (b || has_atom xs z) ≡ has_atom xs z
still_has xs a z has true is = sym (ap (has_atom xs) (sym (same_exact a z is)) ∙ has)
still_has xs a z has false is = refl

pub with_member : (xs : List Atom) (a : Atom) → IsRising xs → has_atom xs a ≡ true → with_atom xs a ≡ xs
with_member xs a rise has = same_set (with_atom xs a) xs (IsRising-with_atom a xs rise) rise (λ z. has-with_atom xs a z ∙ still_has xs a z has (same a z) refl)

kind_of_member : (k : ℕ) (xs : List Atom) (a : Atom) → AllOfKind k xs → has_atom xs a ≡ true → kind_of a ≡ k
kind_of_member k [] a kinds has = absurd (false≢true has)
kind_of_member k (x ∷ xs) a kinds has = at_first (λ h. kind_of_member k xs a kinds.1 h) (same x a) refl has
  where
    at_first : (has_atom xs a ≡ true → kind_of a ≡ k) → (b : Bool) → same x a ≡ b → (b || has_atom xs a) ≡ true → kind_of a ≡ k
    at_first later true is h = ap kind_of (sym (same_exact x a is)) ∙ kinds.0
    at_first later false is h = later h

fits_member : (xs : List Atom) (a : Atom) → IsOneKind xs → has_atom xs a ≡ true → fits xs a ≡ true
fits_member [] a kinds has = refl
fits_member (x ∷ xs) a kinds has =
    let same_kinds : kind_of a ≡ kind_of x = kind_of_member (kind_of x) (x ∷ xs) a (refl, kinds) has in
    grind arith

pub member_added : (xs : List Atom) (a : Atom) → IsAtomSet xs → length xs ≤ MOST_ELEMENTS → has_atom xs a ≡ true → added xs a ≡ Ok xs
member_added xs a set few has =
    ap (λ b. cond b (limited (with_atom xs a)) (Err Kind)) (fits_member xs a set.1 has) ∙ (ap limited (with_member xs a set.0 has) ∙ limited_few xs few)

members_added : (xs : List Atom) (e n : ℕ) → IsAtomSet xs → length xs ≤ MOST_ELEMENTS → ((i : ℕ) → i < n → has_atom xs (atom.Event (e + i)) ≡ true) → all_added xs (events_from e n) ≡ Ok xs
members_added xs e zero set few has = refl
members_added xs e (suc n) set few has =
    let first : e + 0 ≡ e = omega arith in
    ap (λ o. and_then o (λ more. all_added more (events_from (e + 1) n))) (member_added xs (atom.Event e) set few (ap (λ d. has_atom xs (atom.Event d)) (sym first) ∙ has 0 (omega arith))) ∙
    members_added xs (e + 1) n set few (λ i lt. let next : e + 1 + i ≡ e + (i + 1) = omega arith in ap (λ d. has_atom xs (atom.Event d)) next ∙ has (i + 1) (omega arith))

-- events whose first and last stand as far apart in the set as they are
pub held_added : (xs : List Atom) (first last : Atom) (e n p : ℕ) → IsRising xs → IsOneKind xs → length xs ≤ MOST_ELEMENTS → 0 < n → first ≡ atom.Event (e + 0) → last ≡ atom.Event (e + (n - 1))
    → place_of xs first ≡ Some p → place_of xs last ≡ Some (p + (n - 1)) → all_added xs (events_from e n) ≡ Ok xs
held_added xs first last e n p rise kinds few some is_first is_last at_first at_last =
    let here : e ≡ e + 0 = omega arith in
    let low : place_of xs (atom.Event e) ≡ Some p = ap (place_of xs) (ap (λ (d : ℕ). atom.Event d) here ∙ sym is_first) ∙ at_first in
    let high : slice_get xs (p + (n - 1)) ≡ Some (atom.Event (e + (n - 1))) =
    at_place xs (atom.Event (e + (n - 1))) (p + (n - 1)) (ap (place_of xs) (sym is_last) ∙ at_last) in
    members_added xs e n (rise, kinds) few (λ i lt. rest_held e p i xs (n - 1) rise low high (omega arith))
