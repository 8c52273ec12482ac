-- Nodes with the same acceptances, in place of each other.
use Rattle.conformance.proofs.Prelude.{◌≡◌, ℕ, List, [], ◌∷◌, ◌++◌, length, get_or, true, nat_eq, subst, sym, refl, arith, inl, inr, cases_lt, eqb-true, get_or_append_left, get_or_past, length-append, get_or-append_seam, Node, AreAlike, IsAlike, pointwise, IsExact-pointwise}

pub same_sets : (sets others : List (List ℕ)) → pointwise (pointwise nat_eq) sets others ≡ true → sets ≡ others
same_sets = IsExact-pointwise (pointwise nat_eq) (IsExact-pointwise nat_eq eqb-true)

pub itself : (table : List Node) (n : ℕ) → IsAlike table n n
itself table n = record { within = ((λ h. h), (λ h. h)); same = refl }

-- one number more
pub one_more_alike : (table : List Node) (firsts : List ℕ) (first : ℕ) → AreAlike table firsts → IsAlike table first (length firsts) → AreAlike table (firsts ++ first ∷ [])
one_more_alike table firsts first all new n = elim (cases_lt n (length firsts)) [
  | inl old ↦ subst (λ m. IsAlike table m n) (sym (get_or_append_left firsts (first ∷ []) n n old)) (all n)
  | inr past ↦ elim (cases_lt (length firsts) n) [
    | inl later ↦ subst (λ m. IsAlike table m n) (sym (get_or_past (firsts ++ first ∷ []) n n (omega (arith, length-append firsts (first ∷ []))))) (itself table n)
    | inr end ↦
        let here : length firsts ≡ n = omega arith in
        subst (λ m. IsAlike table (get_or (firsts ++ first ∷ []) m m) m) here (subst (λ m. IsAlike table m (length firsts)) (sym (get_or-append_seam firsts first [] (length firsts))) new)
  ]
]
