-- What stands in a list, by recursion on the list.
use Rattle.process_steps.proofs.Prelude.{◌≡◌, ◌⊎◌, ℕ, zero, suc, Some, List, [], ◌∷◌, ◌++◌, map, slice_get, refl, ap, inl, inr, subst, sym, StandsIn, joined}

abbrev pub Among : {A : Type 0} → List A → A → Type 0
Among [] x = ⊥
Among (y ∷ ys) x = (y ≡ x) ⊎ Among ys x

-- a member of the list that has the property
pub record From {A : Type 0} (P : A → Type 0) (xs : List A) : Type 0 where
  pub source : A
  pub among : Among xs source
  pub made : P source

pub at_place : {A : Type 0} (xs : List A) (k : ℕ) (x : A) → slice_get xs k ≡ Some x → Among xs x
at_place [] k x h = absurd cc
at_place (y ∷ ys) zero x h = inl cc
at_place (y ∷ ys) (suc k) x h = inr (at_place ys k x h)

pub placed : {A : Type 0} (xs : List A) (x : A) → Among xs x → StandsIn xs x
placed [] x h = absurd h
placed (y ∷ ys) x (inl e) = (zero, ap (λ z. Some z) e)
placed (y ∷ ys) x (inr h) = let found = placed ys x h in (suc found.0, found.1)

pub in_left : {A : Type 0} (xs ys : List A) (x : A) → Among xs x → Among (xs ++ ys) x
in_left [] ys x h = absurd h
in_left (z ∷ zs) ys x (inl e) = inl e
in_left (z ∷ zs) ys x (inr h) = inr (in_left zs ys x h)

pub in_right : {A : Type 0} (xs ys : List A) (x : A) → Among ys x → Among (xs ++ ys) x
in_right [] ys x h = h
in_right (z ∷ zs) ys x h = inr (in_right zs ys x h)

pub in_either : {A : Type 0} (xs ys : List A) (x : A) → Among (xs ++ ys) x → Among xs x ⊎ Among ys x
in_either [] ys x h = inr h
in_either (z ∷ zs) ys x (inl e) = inl (inl e)
in_either (z ∷ zs) ys x (inr h) = elim (in_either zs ys x h) [ inl g ↦ inl (inr g) | inr g ↦ inr g ]

from_later : {A : Type 0} (P : A → Type 0) (z : A) (zs : List A) → From P zs → From P (z ∷ zs)
from_later P z zs h = record { source = h.source; among = inr h.among; made = h.made }

pub in_map : {A B : Type 0} (f : A → B) (xs : List A) (x : A) → Among xs x → Among (map f xs) (f x)
in_map f [] x h = absurd h
in_map f (y ∷ ys) x (inl e) = inl (ap f e)
in_map f (y ∷ ys) x (inr h) = inr (in_map f ys x h)

pub from_map : {A B : Type 0} (f : A → B) (xs : List A) (y : B) → Among (map f xs) y → From (λ x. f x ≡ y) xs
from_map f [] y h = absurd h
from_map f (z ∷ zs) y (inl e) = record { source = z; among = inl refl; made = e }
from_map f (z ∷ zs) y (inr h) = from_later (λ x. f x ≡ y) z zs (from_map f zs y h)

pub in_joined : {A B : Type 0} (f : A → List B) (xs : List A) (x : A) (y : B) → Among xs x → Among (f x) y → Among (joined (map f xs)) y
in_joined f [] x y h g = absurd h
in_joined f (z ∷ zs) x y (inl e) g = in_left (f z) (joined (map f zs)) y (subst (λ w. Among (f w) y) (sym e) g)
in_joined f (z ∷ zs) x y (inr h) g = in_right (f z) (joined (map f zs)) y (in_joined f zs x y h g)

pub from_joined : {A B : Type 0} (f : A → List B) (xs : List A) (y : B) → Among (joined (map f xs)) y → From (λ x. Among (f x) y) xs
from_joined f [] y h = absurd h
from_joined f (z ∷ zs) y h = elim (in_either (f z) (joined (map f zs)) y h) [
  | inl g ↦ record { source = z; among = inl refl; made = g }
  | inr g ↦ from_later (λ x. Among (f x) y) z zs (from_joined f zs y g)
]
