-- Facts on strictly rising lists of numbers, by their members.
use Rattle.csp_base.proofs.Prelude.{◌≡◌, ℕ, zero, suc, ◌+◌, ◌<◌, ◌≤◌, Bool, true, false, not, cond, ◌&&◌, ◌||◌, eqb, ltb, leb, List, [], ◌∷◌, ◌++◌, refl, sym, ap, inl, inr, le_refl, ◌∙◌, subst, add-one, arith, Some, None, IsStrictlyIncreasing, filter, find, ◌==◌, with_member, union_of, set_of, inter_of, diff_of, is_subset_of, meets_of, and_comm, has}
use Rattle.csp_base.proofs.Standard.{cases_eq, cases_lt, cases_order, or_right, or_left, or_from, or_cases, or_parts, and_from, and_left, and_right, and_parts, ltb-true, ltb-false, eqb-false, ne_eqb, le-leb, lt-leb, eqb-true, false≢true, true≢false, list_any-append, any-filter_same}
use Rattle.csp_base.proofs.Booleans.{or_none, or_regroup, or_swap, or_again}
use Rattle.csp_base.proofs.Listed.{has_first, has_rest}

-- the list rises strictly, from the given number on
abbrev pub RisesFrom : ℕ → List ℕ → Type 0
RisesFrom n [] = Unit {0}
RisesFrom n (x ∷ xs) = (n ≤ x) × RisesFrom (x + 1) xs

pub RisesFrom-weaken : (m n : ℕ) (xs : List ℕ) → m ≤ n → RisesFrom n xs → RisesFrom m xs
RisesFrom-weaken m n [] l r = tt
RisesFrom-weaken m n (x ∷ xs) l r = (let h : n ≤ x = r.0 in omega arith, r.1)

pub has_below : (n : ℕ) (xs : List ℕ) (x : ℕ) → RisesFrom n xs → x < n → has xs x ≡ false
has_below n [] x r l = refl
has_below n (y ∷ ys) x r l =
    let h : n ≤ y = r.0 in
    rw (ne_eqb y x (omega arith)) (has_below (y + 1) ys x r.1 (omega arith))

-- the first numbers of two rising lists with the same members are equal
same_first : (x : ℕ) (xs : List ℕ) (y : ℕ) (ys : List ℕ) → RisesFrom (x + 1) xs → RisesFrom (y + 1) ys → ((z : ℕ) → has (x ∷ xs) z ≡ has (y ∷ ys) z) → x ≡ y
same_first x xs y ys r s same =
    elim (cases_lt x y) [
      | inl h ↦ absurd (true≢false (sym (has_first x xs) ∙ same x ∙ has_below y (y ∷ ys) x (le_refl y, s) h))
      | inr h ↦ elim (cases_lt y x) [
        | inl g ↦ absurd (true≢false (sym (has_first y ys) ∙ sym (same y) ∙ has_below x (x ∷ xs) y (le_refl x, r) g))
        | inr g ↦ omega arith
      ]
    ]

-- and so are the members of what follows
same_rest : (x : ℕ) (xs ys : List ℕ) → RisesFrom (x + 1) xs → RisesFrom (x + 1) ys → ((z : ℕ) → has (x ∷ xs) z ≡ has (x ∷ ys) z) → (z : ℕ) → has xs z ≡ has ys z
same_rest x xs ys r s same z =
    elim (cases_eq x z) [
      | inl e ↦ has_below (x + 1) xs z r (omega arith) ∙ sym (has_below (x + 1) ys z s (omega arith))
      | inr n ↦ sym (has_rest x xs z n) ∙ same z ∙ has_rest x ys z n
    ]

-- the law of extensionality: rising lists with the same members are equal
pub same_members : (m n : ℕ) (xs ys : List ℕ) → RisesFrom m xs → RisesFrom n ys → ((x : ℕ) → has xs x ≡ has ys x) → xs ≡ ys
same_members m n [] [] r s same = refl
same_members m n [] (y ∷ ys) r s same = absurd (false≢true (same y ∙ has_first y ys))
same_members m n (x ∷ xs) [] r s same = absurd (false≢true (sym (same x) ∙ has_first x xs))
same_members m n (x ∷ xs) (y ∷ ys) r s same =
    let first : x ≡ y = same_first x xs y ys r.1 s.1 same in
    let s' : RisesFrom (x + 1) ys = subst (λ z. RisesFrom (z + 1) ys) (sym first) s.1 in
    let rest = same_members (x + 1) (x + 1) xs ys r.1 s' (same_rest x xs ys r.1 s' (subst (λ w. (z : ℕ) → has (x ∷ xs) z ≡ has (w ∷ ys) z) (sym first) same)) in
    λ i. first i ∷ rest i

-- ---- what std calls strictly increasing

increasing_tail : (x : ℕ) (xs : List ℕ) → IsStrictlyIncreasing (x ∷ xs) → IsStrictlyIncreasing xs
increasing_tail x xs h k l = simp add-one (simp add-one at (h (suc k) (omega arith)))

rises_after : (x : ℕ) (xs : List ℕ) → IsStrictlyIncreasing (x ∷ xs) → RisesFrom (x + 1) xs
rises_after x [] h = tt
rises_after x (y ∷ ys) h = (let g : x < y = h 0 (omega arith) in omega arith, rises_after y ys (increasing_tail x (y ∷ ys) h))

pub rises_from_increasing : (xs : List ℕ) → IsStrictlyIncreasing xs → RisesFrom 0 xs
rises_from_increasing [] h = tt
rises_from_increasing (x ∷ xs) h = (omega arith, rises_after x xs h)

pub increasing_from_rises : (n : ℕ) (xs : List ℕ) → RisesFrom n xs → IsStrictlyIncreasing xs
increasing_from_rises n [] r k l = absurd (omega arith)
increasing_from_rises n (x ∷ []) r k l = absurd (omega arith)
increasing_from_rises n (x ∷ y ∷ ys) r zero l = let h : x + 1 ≤ y = r.1.0 in omega arith
increasing_from_rises n (x ∷ y ∷ ys) r (suc k) l =
    simp add-one (simp add-one at (increasing_from_rises (x + 1) (y ∷ ys) r.1 k (omega arith)))

-- ---- one list after another

pub has-append : (xs ys : List ℕ) (x : ℕ) → has (xs ++ ys) x ≡ (has xs x || has ys x)
has-append xs ys x = list_any-append (λ y. y == x) xs ys

pub RisesFrom-append : (m n : ℕ) (xs ys : List ℕ) → m ≤ n → RisesFrom m xs → ((x : ℕ) → has xs x ≡ true → x < n) → RisesFrom n ys → RisesFrom m (xs ++ ys)
RisesFrom-append m n [] ys l r under s = RisesFrom-weaken m n ys l s
RisesFrom-append m n (x ∷ xs) ys l r under s =
    let below : x < n = under x (has_first x xs) in
    (r.0, RisesFrom-append (x + 1) n xs ys (omega arith) r.1 (λ z h. under z (or_right (eqb x z) (has xs z) h)) s)

-- ---- the functions on lists

pub has-filter : (p : ℕ → Bool) (xs : List ℕ) (x : ℕ) → has (filter p xs) x ≡ (p x && has xs x)
has-filter p xs x = any-filter_same (λ y. y == x) p (p x) (λ k e. ap p (eqb-true k x e)) xs

pub RisesFrom-filter : (p : ℕ → Bool) (n : ℕ) (xs : List ℕ) → RisesFrom n xs → RisesFrom n (filter p xs)
RisesFrom-filter p n [] r = tt
RisesFrom-filter p n (x ∷ xs) r =
    elim (p x) as (λ b. RisesFrom n (cond b (x ∷ filter p xs) (filter p xs))) [
      | true ↦ (r.0, RisesFrom-filter p (x + 1) xs r.1)
      | false ↦ RisesFrom-filter p n xs (RisesFrom-weaken n (x + 1) xs (let h : n ≤ x = r.0 in omega arith) r.1)
    ]

not_meets_rest : (a b c : Bool) → ((a || b) && c) ≡ false → (b && c) ≡ false
not_meets_rest true true c h = h
not_meets_rest true false c h = refl
not_meets_rest false b c h = h

has-with_member_cases : (a b : Bool) (x y z : ℕ) (ys zs : List ℕ) → eqb x y ≡ b → has zs z ≡ (eqb x z || has ys z) → has (cond a (x ∷ y ∷ ys) (cond b (y ∷ ys) (y ∷ zs))) z ≡ (eqb x z || has (y ∷ ys) z)
has-with_member_cases true b x y z ys zs e ih = refl
has-with_member_cases false true x y z ys zs e ih = rw (eqb-true x y e) (or_again (eqb y z) (has ys z))
has-with_member_cases false false x y z ys zs e ih = rw ih (or_swap (eqb y z) (eqb x z) (has ys z))

pub has-with_member : (x : ℕ) (ys : List ℕ) (z : ℕ) → has (with_member x ys) z ≡ (eqb x z || has ys z)
has-with_member x [] z = refl
has-with_member x (y ∷ ys) z = has-with_member_cases (ltb x y) (eqb x y) x y z ys (with_member x ys) refl (has-with_member x ys z)

RisesFrom-with_member_cases : (a b : Bool) (n x y : ℕ) (ys zs : List ℕ) → ltb x y ≡ a → eqb x y ≡ b → n ≤ x → RisesFrom n (y ∷ ys) → (y < x → RisesFrom (y + 1) zs) → RisesFrom n (cond a (x ∷ y ∷ ys) (cond b (y ∷ ys) (y ∷ zs)))
RisesFrom-with_member_cases true b n x y ys zs d e l r ih = (l, (let h : x < y = ltb-true x y d in omega arith, r.1))
RisesFrom-with_member_cases false true n x y ys zs d e l r ih = r
RisesFrom-with_member_cases false false n x y ys zs d e l r ih =
    let ge : y ≤ x = ltb-false x y d in
    let ne : x ≡ y → ⊥ = eqb-false x y e in
    (r.0, ih (omega arith))

pub RisesFrom-with_member : (n x : ℕ) (ys : List ℕ) → n ≤ x → RisesFrom n ys → RisesFrom n (with_member x ys)
RisesFrom-with_member n x [] l r = (l, tt)
RisesFrom-with_member n x (y ∷ ys) l r =
    RisesFrom-with_member_cases (ltb x y) (eqb x y) n x y ys (with_member x ys) refl refl l r (λ h. RisesFrom-with_member (y + 1) x ys (omega arith) r.1)

pub has-union_of : (xs ys : List ℕ) (z : ℕ) → has (union_of xs ys) z ≡ (has xs z || has ys z)
has-union_of [] ys z = refl
has-union_of (x ∷ xs) ys z =
    has-with_member x (union_of xs ys) z ∙ ap (λ b. eqb x z || b) (has-union_of xs ys z) ∙ or_regroup (eqb x z) (has xs z) (has ys z)

pub RisesFrom-union_of : (xs ys : List ℕ) → RisesFrom 0 ys → RisesFrom 0 (union_of xs ys)
RisesFrom-union_of [] ys r = r
RisesFrom-union_of (x ∷ xs) ys r = RisesFrom-with_member 0 x (union_of xs ys) (omega arith) (RisesFrom-union_of xs ys r)

-- ---- the exact list of an operation, from its members

pub union_of_from_members : (xs ys zs : List ℕ) → RisesFrom 0 ys → RisesFrom 0 zs → ((x : ℕ) → has zs x ≡ (has xs x || has ys x)) → zs ≡ union_of xs ys
union_of_from_members xs ys zs r s h =
    same_members 0 0 zs (union_of xs ys) s (RisesFrom-union_of xs ys r) (λ x. h x ∙ sym (has-union_of xs ys x))

pub inter_of_from_members : (xs ys zs : List ℕ) → RisesFrom 0 xs → RisesFrom 0 zs → ((x : ℕ) → has zs x ≡ (has xs x && has ys x)) → zs ≡ inter_of xs ys
inter_of_from_members xs ys zs r s h =
    same_members 0 0 zs (inter_of xs ys) s (RisesFrom-filter (has ys) 0 xs r)
    (λ x. h x ∙ and_comm (has xs x) (has ys x) ∙ sym (has-filter (has ys) xs x))

pub diff_of_from_members : (xs ys zs : List ℕ) → RisesFrom 0 xs → RisesFrom 0 zs → ((x : ℕ) → has zs x ≡ (has xs x && not (has ys x))) → zs ≡ diff_of xs ys
diff_of_from_members xs ys zs r s h =
    same_members 0 0 zs (diff_of xs ys) s (RisesFrom-filter (λ x. not (has ys x)) 0 xs r)
    (λ x. h x ∙ and_comm (has xs x) (not (has ys x)) ∙ sym (has-filter (λ x. not (has ys x)) xs x))

-- ---- tests on two lists

pub is_subset_of_from_members : (xs ys : List ℕ) → ((x : ℕ) → has xs x ≡ true → has ys x ≡ true) → is_subset_of xs ys ≡ true
is_subset_of_from_members [] ys h = refl
is_subset_of_from_members (x ∷ xs) ys h =
    and_from (has ys x) (is_subset_of xs ys) (h x (has_first x xs)) (is_subset_of_from_members xs ys (λ z e. h z (or_right (eqb x z) (has xs z) e)))

pub not_is_subset_of_from_member : (xs ys : List ℕ) (x : ℕ) → has xs x ≡ true → has ys x ≡ false → is_subset_of xs ys ≡ false
not_is_subset_of_from_member [] ys x e n = absurd (false≢true e)
not_is_subset_of_from_member (y ∷ xs) ys x e n =
    elim (or_cases (eqb y x) (has xs x) e) [
      | inl h ↦ and_left (has ys y) (is_subset_of xs ys) (ap (has ys) (eqb-true y x h) ∙ n)
      | inr h ↦ and_right (has ys y) (is_subset_of xs ys) (not_is_subset_of_from_member xs ys x h n)
    ]

pub meets_of_from_member : (xs ys : List ℕ) (x : ℕ) → has xs x ≡ true → has ys x ≡ true → meets_of xs ys ≡ true
meets_of_from_member [] ys x e n = absurd (false≢true e)
meets_of_from_member (y ∷ xs) ys x e n =
    elim (or_cases (eqb y x) (has xs x) e) [
      | inl h ↦ or_left (has ys y) (meets_of xs ys) (ap (has ys) (eqb-true y x h) ∙ n)
      | inr h ↦ or_right (has ys y) (meets_of xs ys) (meets_of_from_member xs ys x h n)
    ]

pub not_meets_of_from_members : (xs ys : List ℕ) → ((x : ℕ) → (has xs x && has ys x) ≡ false) → meets_of xs ys ≡ false
not_meets_of_from_members [] ys h = refl
not_meets_of_from_members (x ∷ xs) ys h =
    or_from (has ys x) (meets_of xs ys) (rw (has_first x xs) at (h x))
    (not_meets_of_from_members xs ys (λ z. not_meets_rest (eqb x z) (has xs z) (has ys z) (h z)))

-- what the laws of subset and meeting say the other way
pub member_of_superset : (xs ys : List ℕ) → is_subset_of xs ys ≡ true → (x : ℕ) → has xs x ≡ true → has ys x ≡ true
member_of_superset [] ys s x e = absurd (false≢true e)
member_of_superset (y ∷ xs) ys s x e =
    let both = and_parts (has ys y) (is_subset_of xs ys) s in
    elim (or_cases (eqb y x) (has xs x) e) [
      | inl h ↦ subst (λ z. has ys z ≡ true) (eqb-true y x h) both.0
      | inr h ↦ member_of_superset xs ys both.1 x h
    ]

-- ---- the first member from a number on, and the order of lists

pub find_from_member : (n : ℕ) (xs : List ℕ) (e x : ℕ) → RisesFrom n xs → has xs x ≡ true → e ≤ x → ((z : ℕ) → z < x → e ≤ z → has xs z ≡ false) → find (leb e) xs ≡ Some x
find_from_member n [] e x r h l none = absurd (false≢true h)
find_from_member n (y ∷ ys) e x r h l none =
    elim (cases_lt y e) [
      | inl g ↦ rw (lt-leb e y g) (find_from_member (y + 1) ys e x r.1 (sym (has_rest y ys x (omega arith)) ∙ h) l (λ z p q. sym (has_rest y ys z (omega arith)) ∙ none z p q))
      | inr g ↦
          elim (cases_order y x) [
            | inl s ↦ rw (le-leb e y g) (ap Some s)
            | inr o ↦ elim o [
              | inl s ↦ absurd (false≢true (sym (none y s g) ∙ has_first y ys))
              | inr s ↦ absurd (false≢true (sym (has_below y (y ∷ ys) x (le_refl y, r.1) s) ∙ h))
            ]
          ]
    ]

pub find_from_none : (xs : List ℕ) (e : ℕ) → ((z : ℕ) → e ≤ z → has xs z ≡ false) → find (leb e) xs ≡ None
find_from_none [] e none = refl
find_from_none (y ∷ ys) e none =
    elim (cases_lt y e) [
      | inl g ↦ rw (lt-leb e y g) (find_from_none ys e (λ z q. (or_parts (eqb y z) (has ys z) (none z q)).1))
      | inr g ↦ absurd (false≢true (sym (none y g) ∙ has_first y ys))
    ]

pub set_of_from_members : (xs zs : List ℕ) → RisesFrom 0 zs → ((x : ℕ) → has zs x ≡ has xs x) → zs ≡ set_of xs
set_of_from_members xs zs s h = union_of_from_members xs [] zs tt s (λ x. h x ∙ or_none (has xs x))
