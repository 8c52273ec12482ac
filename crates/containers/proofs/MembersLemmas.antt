-- What a caller knows of a list without doubles once a value is in it: its members, its length, and that each place keeps its value.
use Rattle.std.proofs.Common.{◌≡◌, ℕ, zero, suc, Bool, true, false, cond, List, [], ◌∷◌, ◌++◌, Some, slice_get, refl}
use Rattle.std.proofs.lemmas.Map.Keys.{IsDistinct-push}
use Rattle.std.specs.Cmp.{IsEquivalence}
use Rattle.std.specs.List.{IsDistinct}
use Rattle.std.specs.Set.{is_member}
use Rattle.containers.specs.Members.{with_new}

-- a value at a place stays there when the list grows at its end
pub slice_get-append_left : {X : Type 0} (xs ys : List X) (place : ℕ) (y : X) → slice_get xs place ≡ Some y → slice_get (xs ++ ys) place ≡ Some y
slice_get-append_left [] ys place y h = cc
slice_get-append_left (x ∷ xs) ys zero y h = h
slice_get-append_left (x ∷ xs) ys (suc place) y h = slice_get-append_left xs ys place y h

-- each case of `with_new`, by whether x is known
by_known : {X : Type 0} (P : List X → Type 0) (xs : List X) (x : X) (known : Bool) → (known ≡ true → P xs) → (known ≡ false → P (xs ++ x ∷ [])) → P (cond known xs (xs ++ x ∷ []))
by_known P xs x true old new = old refl
by_known P xs x false old new = new refl

module _ {X : Type 0} (eq : X → X → Bool) where
  pub slice_get-with_new : (xs : List X) (x : X) (place : ℕ) (y : X) → slice_get xs place ≡ Some y → slice_get (with_new eq xs x) place ≡ Some y
  slice_get-with_new xs x place y h = by_known (λ ys. slice_get ys place ≡ Some y) xs x (is_member eq xs x) (λ _. h) (λ _. slice_get-append_left xs (x ∷ []) place y h)

module _ {X : Type 0} {eq : X → X → Bool} (laws : IsEquivalence eq) where
  pub IsDistinct-with_new : (xs : List X) (x : X) → IsDistinct eq xs → IsDistinct eq (with_new eq xs x)
  IsDistinct-with_new xs x distinct = by_known (IsDistinct eq) xs x (is_member eq xs x) (λ _. distinct) (λ new. IsDistinct-push laws xs x distinct new)
