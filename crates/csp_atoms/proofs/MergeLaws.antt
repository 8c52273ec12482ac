-- One step of a merge of two rising lists of atoms.
use Rattle.csp_atoms.proofs.Prelude.{◌≡◌, ◌+◌, ◌<◌, ◌≤◌, Bool, true, false, not, cond, refl, sym, ◌∙◌, ap, subst, inl, inr, ◌⊎◌, List, [], ◌∷◌, ◌++◌, length, Some, None, arith, append_assoc, filter, append-nil, less, same, AllAbove, IsRising, has_atom, with_atom, union_of, result_of, least_of, begins_with, rest_after, with_last, Atom, keeps, SetOp, Union, Inter, Diff}
use Rattle.csp_atoms.proofs.OrderLaws.{same_itself, less_itself, before_from_less, cases_atoms}
use Rattle.csp_atoms.proofs.ListLaws.{AllAbove-trans, has_not_before, with_first, AllAbove-union_of}

-- ---- what a first atom of the second list adds to a union

union_with_second : (a : Atom) (xs ys : List Atom) → AllAbove a xs → union_of xs (a ∷ ys) ≡ a ∷ union_of xs ys
union_with_second a [] ys r = refl
union_with_second a (x ∷ xs) ys r =
    let b = before_from_less a x r.0 in
    ap (λ l. with_atom l x) (union_with_second a xs ys r.1) ∙ rw (b.not_back, b.is_before)

union_with_first : (a : Atom) (xs ys : List Atom) → AllAbove a xs → AllAbove a ys → union_of (a ∷ xs) ys ≡ a ∷ union_of xs ys
union_with_first a xs ys r s = with_first a (union_of xs ys) (AllAbove-union_of a xs ys r s)

union_with_both : (a : Atom) (xs ys : List Atom) → AllAbove a xs → union_of (a ∷ xs) (a ∷ ys) ≡ a ∷ union_of xs ys
union_with_both a xs ys r = ap (λ l. with_atom l a) (union_with_second a xs ys r) ∙ rw (less_itself a)

-- ---- what it adds to the members of the second list, for the atoms after it

keep_without : (f : Bool → Bool) (a : Atom) (xs ys : List Atom) → AllAbove a xs → filter (λ z. f (has_atom (a ∷ ys) z)) xs ≡ filter (λ z. f (has_atom ys z)) xs
keep_without f a [] ys r = refl
keep_without f a (x ∷ xs) ys r =
    let b = before_from_less a x r.0 in
    rw b.not_same (ap (λ l. cond (f (has_atom ys x)) (x ∷ l) l) (keep_without f a xs ys r.1))

-- ---- the step

-- what is left to do after the atom a was taken from both
abbrev pub Step : SetOp → Atom → List Atom → List Atom → Type 0
Step op a xs ys =
    result_of op xs ys ≡ cond (keeps op (begins_with xs a) (begins_with ys a)) (a ∷ result_of op (rest_after xs a) (rest_after ys a)) (result_of op (rest_after xs a) (rest_after ys a))

-- a is less than all of the second list
step_left : (op : SetOp) (a : Atom) (xs ys : List Atom) → AllAbove a xs → AllAbove a ys → result_of op (a ∷ xs) ys ≡ cond (keeps op true false) (a ∷ result_of op xs ys) (result_of op xs ys)
step_left Union a xs ys r s = union_with_first a xs ys r s
step_left Inter a xs ys r s = rw (has_not_before a ys s)
step_left Diff a xs ys r s = rw (has_not_before a ys s)

step_right : (op : SetOp) (a : Atom) (xs ys : List Atom) → AllAbove a xs → result_of op xs (a ∷ ys) ≡ cond (keeps op false true) (a ∷ result_of op xs ys) (result_of op xs ys)
step_right Union a xs ys r = union_with_second a xs ys r
step_right Inter a xs ys r = keep_without (λ t. t) a xs ys r
step_right Diff a xs ys r = keep_without not a xs ys r

step_both : (op : SetOp) (a : Atom) (xs ys : List Atom) → AllAbove a xs → result_of op (a ∷ xs) (a ∷ ys) ≡ cond (keeps op true true) (a ∷ result_of op xs ys) (result_of op xs ys)
step_both Union a xs ys r = union_with_both a xs ys r
step_both Inter a xs ys r = rw (same_itself a) (ap (λ l. a ∷ l) (keep_without (λ t. t) a xs ys r))
step_both Diff a xs ys r = rw (same_itself a) (keep_without not a xs ys r)

-- what a list has after an atom that comes before all of it
rest_before : (a : Atom) (ys : List Atom) → AllAbove a ys → (begins_with ys a ≡ false) × (rest_after ys a ≡ ys)
rest_before a [] r = (refl, refl)
rest_before a (y ∷ ys) r = let b = before_from_less a y r.0 in (b.not_same_back, rw b.not_same_back)

step_first : (op : SetOp) (a : Atom) (xs ys : List Atom) → AllAbove a xs → AllAbove a ys → Step op a (a ∷ xs) ys
step_first op a xs ys r s =
    let t = rest_before a ys s in
    rw (same_itself a, t.0, t.1) (step_left op a xs ys r s)

step_second : (op : SetOp) (a : Atom) (xs ys : List Atom) → AllAbove a xs → Step op a xs (a ∷ ys)
step_second op a xs ys r =
    let t = rest_before a xs r in
    rw (same_itself a, t.0, t.1) (step_right op a xs ys r)

step_equal : (op : SetOp) (a : Atom) (xs ys : List Atom) → AllAbove a xs → Step op a (a ∷ xs) (a ∷ ys)
step_equal op a xs ys r = rw (same_itself a) (step_both op a xs ys r)

pub step : (op : SetOp) (a : Atom) (xs ys : List Atom) → IsRising xs → IsRising ys → least_of xs ys ≡ Some a → Step op a xs ys
step op a [] [] r s e = absurd (cc)
step op a [] (y ∷ ys) r s e =
    let is : y ≡ a = cc in
    subst (λ z. Step op z [] (y ∷ ys)) is (step_second op y [] ys tt)
step op a (x ∷ xs) [] r s e =
    let is : x ≡ a = cc in
    subst (λ z. Step op z (x ∷ xs) []) is (step_first op x xs [] r.0 tt)
step op a (x ∷ xs) (y ∷ ys) r s e =
    elim (cases_atoms x y) [
      | inl h ↦
          let b = before_from_less x y h in
          let g = rw b.not_back at e in
          let is : x ≡ a = cc in
          subst (λ z. Step op z (x ∷ xs) (y ∷ ys)) is (step_first op x xs (y ∷ ys) r.0 (h, AllAbove-trans x y ys h s.0))
      | inr o ↦ elim o [
        | inl h ↦
            let g = rw (less_itself x) at (subst (λ z. cond (less z x) (Some z) (Some x) ≡ Some a) (sym h) e) in
            let is : x ≡ a = cc in
            subst (λ z. Step op z (x ∷ xs) (y ∷ ys)) is (subst (λ z. Step op x (x ∷ xs) (z ∷ ys)) h (step_equal op x xs ys r.0))
        | inr h ↦
            let g = rw h at e in
            let is : y ≡ a = cc in
            subst (λ z. Step op z (x ∷ xs) (y ∷ ys)) is (step_second op y (x ∷ xs) ys (h, AllAbove-trans y x xs h r.0))
      ]
    ]

pub no_step : (op : SetOp) (xs ys : List Atom) → least_of xs ys ≡ None → result_of op xs ys ≡ []
no_step Union [] [] e = refl
no_step Inter [] [] e = refl
no_step Diff [] [] e = refl
no_step op [] (y ∷ ys) e = absurd (cc)
no_step op (x ∷ xs) [] e = absurd (cc)
no_step op (x ∷ xs) (y ∷ ys) e = some_left (less y x) x y e
  where
    some_left : {G : Type 0} (t : Bool) (x y : Atom) → cond t (Some y) (Some x) ≡ None → G
    some_left true x y e = absurd (cc)
    some_left false x y e = absurd (cc)

-- ---- what is left rises, and is shorter

pub IsRising-rest_after : (xs : List Atom) (a : Atom) → IsRising xs → IsRising (rest_after xs a)
IsRising-rest_after [] a r = tt
IsRising-rest_after (x ∷ xs) a r = elim (same x a) as (λ t. IsRising (cond t xs (x ∷ xs))) [ true ↦ r.1 | false ↦ r ]

rest_no_longer : (xs : List Atom) (a : Atom) → length (rest_after xs a) ≤ length xs
rest_no_longer [] a = omega arith
rest_no_longer (x ∷ xs) a = elim (same x a) as (λ t. length (cond t xs (x ∷ xs)) ≤ length (x ∷ xs)) [ true ↦ omega arith | false ↦ omega arith ]

shorter_first : (x a : Atom) (xs : List Atom) → x ≡ a → length (rest_after (x ∷ xs) a) ≡ length xs
shorter_first x a xs e = subst (λ z. length (rest_after (x ∷ xs) z) ≡ length xs) e (rw (same_itself x))

pub shorter : (xs ys : List Atom) (a : Atom) → least_of xs ys ≡ Some a → length (rest_after xs a) + length (rest_after ys a) < length xs + length ys
shorter [] [] a e = absurd (cc)
shorter [] (y ∷ ys) a e = let is : y ≡ a = cc in omega (arith, shorter_first y a ys is)
shorter (x ∷ xs) [] a e = let is : x ≡ a = cc in omega (arith, shorter_first x a xs is)
shorter (x ∷ xs) (y ∷ ys) a e =
    let first = rest_no_longer (x ∷ xs) a in
    let second = rest_no_longer (y ∷ ys) a in
    elim (least_is (less y x) x y a e) [
      | inl is ↦ omega (arith, shorter_first x a xs is, first, second)
      | inr is ↦ omega (arith, shorter_first y a ys is, first, second)
    ]
  where
    least_is : (t : Bool) (x y a : Atom) → cond t (Some y) (Some x) ≡ Some a → (x ≡ a) ⊎ (y ≡ a)
    least_is true x y a e = inr (cc)
    least_is false x y a e = inl (cc)

-- ---- the step of the loop: `made` has what was kept so far

push_moves : (made xs : List Atom) (t : Bool) (a : Atom) → with_last made t a ++ xs ≡ made ++ cond t (a ∷ xs) xs
push_moves made xs true a = append_assoc made (a ∷ []) xs
push_moves made xs false a = refl

pub loop_step : (op : SetOp) (a : Atom) (made xs ys whole : List Atom) → IsRising xs → IsRising ys → least_of xs ys ≡ Some a → made ++ result_of op xs ys ≡ whole → with_last made (keeps op (begins_with xs a) (begins_with ys a)) a ++ result_of op (rest_after xs a) (rest_after ys a) ≡ whole
loop_step op a made xs ys whole r s e h =
    push_moves made (result_of op (rest_after xs a) (rest_after ys a)) (keeps op (begins_with xs a) (begins_with ys a)) a
    ∙ ap (λ l. made ++ l) (sym (step op a xs ys r s e)) ∙ h

pub loop_end : (op : SetOp) (made xs ys whole : List Atom) → least_of xs ys ≡ None → made ++ result_of op xs ys ≡ whole → made ≡ whole
loop_end op made xs ys whole e h = sym (append-nil made) ∙ ap (λ l. made ++ l) (sym (no_step op xs ys e)) ∙ h
