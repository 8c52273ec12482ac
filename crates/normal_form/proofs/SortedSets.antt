-- Lists of sets in strict order with the same members are equal.
use Rattle.normal_form.proofs.Prelude.{◌≡◌, ℕ, inl, inr, List, [], ◌∷◌, refl, sym, ap, ◌∙◌, subst, AllByRecursion, IsStrictlySortedBy, slice_cmp, nat_cmp, Ordering, Less, ordering_reverse, is_lt, false≢true, sorted_head, sorted_tail, nat_list_cmp_total, Member}

abbrev Order : List ℕ → List ℕ → Ordering
Order = slice_cmp nat_cmp

not_both : (r s : Ordering) → r ≡ ordering_reverse s → r ≡ Less → s ≡ Less → ⊥
not_both r s turned a b = false≢true (sym (ap is_lt (turned ∙ ap ordering_reverse b)) ∙ ap is_lt a)

-- neither of two lists is below the other both ways
pub not_below_both : (x y : List ℕ) → Order x y ≡ Less → Order y x ≡ Less → ⊥
not_below_both x y a b = not_both (Order x y) (Order y x) (nat_list_cmp_total.antisymm x y) a b

below_each : (x y : List ℕ) (ys : List (List ℕ)) → AllByRecursion (λ z. Order x z ≡ Less) ys → Member y ys → Order x y ≡ Less
below_each x y [] all h = absurd h
below_each x y (z ∷ zs) all (inl e) = subst (λ (w : List ℕ). Order x w ≡ Less) (sym e) all.0
below_each x y (z ∷ zs) all (inr h) = below_each x y zs all.1 h

first_same : (x y : List ℕ) (xs ys : List (List ℕ)) → AllByRecursion (λ z. Order x z ≡ Less) xs → AllByRecursion (λ z. Order y z ≡ Less) ys → Member x (y ∷ ys) → Member y (x ∷ xs) → x ≡ y
first_same x y xs ys a b (inl e) k = e
first_same x y xs ys a b (inr h) (inl e) = sym e
first_same x y xs ys a b (inr h) (inr k) = absurd (not_below_both x y (below_each x y xs a k) (below_each y x ys b h))

-- a member of the rest is not the first
in_rest : (x y m : List ℕ) (xs ys : List (List ℕ)) → AllByRecursion (λ z. Order x z ≡ Less) xs → x ≡ y → Member m xs → Member m (y ∷ ys) → Member m ys
in_rest x y m xs ys a same h (inr k) = k
in_rest x y m xs ys a same h (inl e) =
    let low : Order x x ≡ Less = subst (λ (w : List ℕ). Order x w ≡ Less) (e ∙ sym same) (below_each x m xs a h) in
    absurd (not_below_both x x low low)

joined : (x y : List ℕ) (xs ys : List (List ℕ)) → x ≡ y → xs ≡ ys → (x ∷ xs) ≡ (y ∷ ys)
joined x y xs ys p q = λ i. p i ∷ q i

pub same_sorted : (xs ys : List (List ℕ)) → IsStrictlySortedBy (slice_cmp nat_cmp) xs → IsStrictlySortedBy (slice_cmp nat_cmp) ys → ((m : List ℕ) → Member m xs → Member m ys) → ((m : List ℕ) → Member m ys → Member m xs) → xs ≡ ys
same_sorted [] [] a b into back = refl
same_sorted [] (y ∷ ys) a b into back = absurd (back y (inl refl))
same_sorted (x ∷ xs) [] a b into back = absurd (into x (inl refl))
same_sorted (x ∷ xs) (y ∷ ys) a b into back =
    let first : AllByRecursion (λ z. Order x z ≡ Less) xs = sorted_head Order x xs a in
    let second : AllByRecursion (λ z. Order y z ≡ Less) ys = sorted_head Order y ys b in
    let same : x ≡ y = first_same x y xs ys first second (into x (inl refl)) (back y (inl refl)) in
    joined x y xs ys same (same_sorted xs ys (sorted_tail Order x xs a) (sorted_tail Order y ys b)
    (λ m h. in_rest x y m xs ys first same h (into m (inr h)))
    (λ m h. in_rest y x m ys xs second (sym same) h (back m (inr h))))
