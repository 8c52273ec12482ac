-- Members of lists, by recursion.
use Rattle.acceptances.proofs.Prelude.{◌≡◌, ℕ, zero, suc, ◌<◌, ◌⊎◌, inl, inr, Bool, true, false, nat_eq, cond, Some, List, [], ◌∷◌, length, get_or, refl, sym, ap, ◌∙◌, arith, slice_get, first_so, second_so, pointwise, Contains, filter, list_any, All, eqb-true, false≢true, or_left, or_right, or_cases}

-- lists that the test finds equal are equal
pub same_lists_of : (xs ys : List ℕ) → pointwise nat_eq xs ys ≡ true → xs ≡ ys
same_lists_of [] [] h = refl
same_lists_of [] (y ∷ ys) h = absurd (false≢true h)
same_lists_of (x ∷ xs) [] h = absurd (false≢true h)
same_lists_of (x ∷ xs) (y ∷ ys) h =
    let first : x ≡ y = eqb-true x y (first_so (nat_eq x y) (pointwise nat_eq xs ys) h) in
    let rest : xs ≡ ys = same_lists_of xs ys (second_so (nat_eq x y) (pointwise nat_eq xs ys) h) in
    λ i. first i ∷ rest i

abbrev pub Member : {X : Type 0} → X → List X → Type 0
Member x [] = ⊥
Member x (y ∷ ys) = (x ≡ y) ⊎ Member x ys

pub member_at : {X : Type 0} (xs : List X) (k : ℕ) (d : X) → k < length xs → Member (get_or xs k d) xs
member_at [] k d below = absurd (omega arith)
member_at (x ∷ xs) zero d below = inl refl
member_at (x ∷ xs) (suc k) d below = inr (member_at xs k d (omega arith))

pub member_from_contains : {X : Type 0} (xs : List X) (x : X) → Contains xs x → Member x xs
member_from_contains xs x c = rw c.2 at (member_at xs c.0 x c.1)

-- where a member stands
pub record Stands {X : Type 0} (x : X) (xs : List X) : Type 0 where
  pub place : ℕ
  pub within : place < length xs
  pub found : slice_get xs place ≡ Some x
  pub read : (d : X) → get_or xs place d ≡ x

pub stands : {X : Type 0} (x : X) (xs : List X) → Member x xs → Stands x xs
stands x [] h = absurd h
stands x (y ∷ ys) (inl e) = record { place = 0; within = omega arith; found = ap Some (sym e); read = λ d. sym e }
stands x (y ∷ ys) (inr h) = let s = stands x ys h in let w : s.place < length ys = s.within in record { place = suc s.place; within = omega arith; found = s.found; read = s.read }

pub contains_from_member : {X : Type 0} (xs : List X) (x : X) → Member x xs → Contains xs x
contains_from_member xs x h = let s = stands x xs h in (s.place, s.within, s.read x)

pub all_of_members : {X : Type 0} (P : X → Type 0) (xs : List X) → ((x : X) → Member x xs → P x) → All P xs
all_of_members P xs each k d below = each (get_or xs k d) (member_at xs k d below)

-- members of what passes a test
into_cond : {X : Type 0} (x y : X) (ys : List X) (b : Bool) → ((x ≡ y) × (b ≡ true)) ⊎ Member x ys → Member x (cond b (y ∷ ys) ys)
into_cond x y ys true (inl p) = inl p.0
into_cond x y ys false (inl p) = absurd (false≢true p.1)
into_cond x y ys true (inr h) = inr h
into_cond x y ys false (inr h) = h

out_of_cond : {X : Type 0} (x y : X) (ys : List X) (b : Bool) → Member x (cond b (y ∷ ys) ys) → ((x ≡ y) × (b ≡ true)) ⊎ Member x ys
out_of_cond x y ys true (inl e) = inl (e, refl)
out_of_cond x y ys true (inr h) = inr h
out_of_cond x y ys false h = inr h

pub member_of_filter : {X : Type 0} (p : X → Bool) (xs : List X) (x : X) → Member x xs → p x ≡ true → Member x (filter p xs)
member_of_filter p [] x h passes = h
member_of_filter p (y ∷ ys) x (inl e) passes = into_cond x y (filter p ys) (p y) (inl (e, ap p (sym e) ∙ passes))
member_of_filter p (y ∷ ys) x (inr h) passes = into_cond x y (filter p ys) (p y) (inr (member_of_filter p ys x h passes))

pub member_from_filter : {X : Type 0} (p : X → Bool) (xs : List X) (x : X) → Member x (filter p xs) → Member x xs × (p x ≡ true)
member_from_filter p [] x h = absurd h
member_from_filter p (y ∷ ys) x h = elim (out_of_cond x y (filter p ys) (p y) h) as (λ _. Member x (y ∷ ys) × (p x ≡ true)) [
  | inl e ↦ (inl e.0, ap p e.0 ∙ e.1)
  | inr rest ↦ let r = member_from_filter p ys x rest in (inr r.0, r.1)
]

-- a test that a member passes, and a member that passes a test
pub any_of_member : {X : Type 0} (p : X → Bool) (xs : List X) (x : X) → Member x xs → p x ≡ true → list_any p xs ≡ true
any_of_member p [] x h passes = absurd h
any_of_member p (y ∷ ys) x (inl e) passes = or_left (p y) (list_any p ys) (ap p (sym e) ∙ passes)
any_of_member p (y ∷ ys) x (inr h) passes = or_right (p y) (list_any p ys) (any_of_member p ys x h passes)

pub member_of_any : {X : Type 0} (p : X → Bool) (xs : List X) → list_any p xs ≡ true → (x : X) × Member x xs × (p x ≡ true)
member_of_any p [] h = absurd (false≢true h)
member_of_any {X} p (y ∷ ys) h = elim (or_cases (p y) (list_any p ys) h) as (λ _. (x : X) × Member x (y ∷ ys) × (p x ≡ true)) [
  | inl first ↦ (y, inl refl, first)
  | inr rest ↦ let r = member_of_any p ys rest in (r.0, inr r.1, r.2)
]
