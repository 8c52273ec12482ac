-- The acceptances of a shape's parts, by their places and as sets.
use Rattle.design_rules.proofs.Prelude.{ℕ, List, refl, subst, IsWithin, Shape, Accepts, accepted, AcceptsSet}

-- the acceptance in a place, as a set
pub at_place : (shape : Shape) (i : ℕ) (s : List ℕ) (k : ℕ) → Accepts shape i s k → AcceptsSet shape i s (accepted shape i s k)
at_place shape i s k a = record { place = k; at = a; is = refl }

-- what holds of the acceptance in each place holds of each set
pub each_set : (shape : Shape) (i : ℕ) (s : List ℕ) (P : List ℕ → Type 0) → ((k : ℕ) → Accepts shape i s k → P (accepted shape i s k)) → (M : List ℕ) → AcceptsSet shape i s M → P M
each_set shape i s P h M a = subst P a.is (h a.place a.at)

-- each such set lies in the vocabulary
pub set_shared : (shape : Shape) (i : ℕ) (s M : List ℕ) → AcceptsSet shape i s M → IsWithin M shape.vocabulary
set_shared shape i s M a = subst (λ N. IsWithin N shape.vocabulary) a.is a.at.shared
