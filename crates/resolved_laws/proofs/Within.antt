-- Names that are bound in a scope: each name of a set has the number of one of its bound names.
use Rattle.resolved_laws.proofs.Sources.{◌≡◌, ◌⊎◌, ℕ, Bool, true, false, not, ◌&&◌, nat_eq, IsTrue, Option, Some, None, List, [], ◌∷◌, map, subst, inl, inr, if◌then◌else◌, false≢true, or_cases, eq-eqb, eqb-true, is_or_first, is_or_second, Names, nowhere, either, apart_from, Name, same_name, Scope, number_of, or_else, with}
use Rattle.csp_base.specs.Members.{has}

abbrev pub numbers_of : Scope → List ℕ
numbers_of scope = map (λ b. b.1) scope

-- each of these names is a bound name of the scope
pub record IsWithin (names : Names) (scope : Scope) : Type 0 where
  pub at : (x : ℕ) → IsTrue (names x) → IsTrue (has (numbers_of scope) x)

pub nowhere_within : (scope : Scope) → IsWithin nowhere scope
nowhere_within scope = record { at = λ x t. absurd (false≢true t) }

pub either_within : {a b : Names} {scope : Scope} → IsWithin a scope → IsWithin b scope → IsWithin (either a b) scope
either_within {a} {b} g h = record { at = λ x t. elim (or_cases (a x) (b x) t) [ inl l ↦ g.at x l | inr r ↦ h.at x r ] }

-- a name of a scope with one more is that one, or one of the scope
one_more : (scope : Scope) (x : Name) (n y : ℕ) → IsTrue (has (numbers_of (with scope x n)) y)
    → IsTrue (has (numbers_of scope) y) ⊎ (nat_eq n y ≡ true)
one_more [] x n y t = inr (elim (or_cases (nat_eq n y) false t) [ inl l ↦ l | inr r ↦ absurd (false≢true r) ])
one_more (b ∷ scope) x n y t = elim (or_cases (nat_eq b.1 y) (has (numbers_of (with scope x n)) y) t) [
  | inl l ↦ inl (is_or_first (nat_eq b.1 y) (has (numbers_of scope) y) l)
  | inr r ↦ elim (one_more scope x n y r) [ inl s ↦ inl (is_or_second (nat_eq b.1 y) (has (numbers_of scope) y) s) | inr s ↦ inr s ]
]

not_and : (a b : Bool) → IsTrue (not a && b) → a ≡ true → ⊥
not_and true b t e = false≢true t
not_and false b t e = false≢true e

and_then : (a b : Bool) → IsTrue (not a && b) → IsTrue b
and_then true b t = absurd (false≢true t)
and_then false b t = t

pub apart_within : {a : Names} {scope : Scope} (x : Name) (n : ℕ) → IsWithin a (with scope x n) → IsWithin (apart_from n a) scope
apart_within {a} {scope} x n h = record {
  at = λ y t. elim (one_more scope x n y (h.at y (and_then (nat_eq n y) (a y) t))) [ inl s ↦ s | inr e ↦ absurd (not_and (nat_eq n y) (a y) t e) ];
}

-- the number of a bound name is in the scope
or_else_cases : (a b : Option ℕ) (k : ℕ) → or_else a b ≡ Some k → (a ≡ Some k) ⊎ (b ≡ Some k)
or_else_cases (Some n) b k h = inl h
or_else_cases None b k h = inr h

if_some : (b : Bool) (n k : ℕ) → (if b then Some n else None) ≡ Some k → n ≡ k
if_some true n k h = cc
if_some false n k h = absurd (cc)

number_within : (scope : Scope) (x : Name) (k : ℕ) → number_of scope x ≡ Some k → IsTrue (has (numbers_of scope) k)
number_within [] x k h = absurd (cc)
number_within (b ∷ scope) x k h = elim (or_else_cases (number_of scope x) (if same_name x b.0 then Some b.1 else None) k h) [
  | inl l ↦ is_or_second (nat_eq b.1 k) (has (numbers_of scope) k) (number_within scope x k l)
  | inr r ↦ is_or_first (nat_eq b.1 k) (has (numbers_of scope) k) (eq-eqb b.1 k (if_some (same_name x b.0) b.1 k r))
]

pub one_within : (scope : Scope) (x : Name) (k : ℕ) → number_of scope x ≡ Some k → IsWithin (λ y. nat_eq k y) scope
one_within scope x k h = record { at = λ y t. subst (λ z. IsTrue (has (numbers_of scope) z)) (eqb-true k y t) (number_within scope x k h) }
