-- A set in two parts is the union of them: an atom may be put into either part, and is put in already where the first part holds it.
use Rattle.value_operators.proofs.Prelude.{◌≡◌, ℕ, ◌+◌, ◌≤◌, List, [], ◌∷◌, Bool, true, false, Ok, Err, cond, length, refl, ap, subst, sym, ◌∙◌, arith, ◌||◌, ◌&&◌, nat_eq, Result, eqb-true, kind_of, less, same, AllOfKind, IsRising, fits, has_atom, union_of, with_atom, Atom, IsRising-union_of, IsRising-with_atom, kind_with_atom, kind_union_of, has-union_of, has-with_atom, same_set, added, limited, Kind, Gives, IsParted, EvalFault, and_false, or_none, or_regroup, or_swap, MOST_ELEMENTS}
use Rattle.value_operators.proofs.SetSteps.{limited_few}
use Rattle.value_operators.proofs.Held.{with_member}

-- an atom that is put into the first part, or into the second, is put into the whole
pub put_settled : (xs ys : List Atom) (a : Atom) → IsRising ys → union_of (with_atom xs a) ys ≡ with_atom (union_of xs ys) a
put_settled xs ys a rise =
    same_set (union_of (with_atom xs a) ys) (with_atom (union_of xs ys) a) (IsRising-union_of (with_atom xs a) ys rise) (IsRising-with_atom a (union_of xs ys) (IsRising-union_of xs ys rise))
    (λ z. has-union_of (with_atom xs a) ys z ∙ (ap (λ b. b || has_atom ys z) (has-with_atom xs a z) ∙ (sym (or_regroup (same a z) (has_atom xs z) (has_atom ys z)) ∙
    (ap (λ b. same a z || b) (sym (has-union_of xs ys z)) ∙ sym (has-with_atom (union_of xs ys) a z)))))

pub put_waiting : (xs ys : List Atom) (a : Atom) → IsRising ys → union_of xs (with_atom ys a) ≡ with_atom (union_of xs ys) a
put_waiting xs ys a rise =
    same_set (union_of xs (with_atom ys a)) (with_atom (union_of xs ys) a) (IsRising-union_of xs (with_atom ys a) (IsRising-with_atom a ys rise)) (IsRising-with_atom a (union_of xs ys) (IsRising-union_of xs ys rise))
    (λ z. has-union_of xs (with_atom ys a) z ∙ (ap (λ b. has_atom xs z || b) (has-with_atom ys a z) ∙ (or_swap (has_atom xs z) (same a z) (has_atom ys z) ∙
    (ap (λ b. same a z || b) (sym (has-union_of xs ys z)) ∙ sym (has-with_atom (union_of xs ys) a z)))))

held_in_union : (xs ys : List Atom) (a : Atom) → has_atom xs a ≡ true → has_atom (union_of xs ys) a ≡ true
held_in_union xs ys a has = has-union_of xs ys a ∙ ap (λ b. b || has_atom ys a) has

-- a member of the first part
pub put_already : (xs ys : List Atom) (a : Atom) → IsRising ys → has_atom xs a ≡ true → union_of xs ys ≡ with_atom (union_of xs ys) a
put_already xs ys a rise has = sym (with_member (union_of xs ys) a (IsRising-union_of xs ys rise) (held_in_union xs ys a has))

-- all in one part
and_one : (b : Bool) → b ≡ (b && true)
and_one true = refl
and_one false = refl

and_again : (b : Bool) → b ≡ (b && b)
and_again true = refl
and_again false = refl

pub with_nothing : (xs : List Atom) → IsRising xs → union_of xs [] ≡ xs
with_nothing xs rise = same_set (union_of xs []) xs (IsRising-union_of xs [] tt) rise (λ z. has-union_of xs [] z ∙ sym (or_none (has_atom xs z)))

-- lengths
length_with : (xs : List Atom) (a : Atom) → length (with_atom xs a) ≤ length xs + 1
length_with [] a = omega arith
length_with (x ∷ xs) a =
    elim (less a x) as (λ t. length (cond t (a ∷ x ∷ xs) (cond (less x a) (x ∷ with_atom xs a) (x ∷ xs))) ≤ length (x ∷ xs) + 1) [
      | true ↦ omega arith
      | false ↦
          elim (less x a) as (λ t. length (cond t (x ∷ with_atom xs a) (x ∷ xs)) ≤ length (x ∷ xs) + 1) [
            | true ↦ omega (arith, length_with xs a)
            | false ↦ omega arith
          ]
    ]

pub length_union : (xs ys : List Atom) → length (union_of xs ys) ≤ length xs + length ys
length_union [] ys = omega arith
length_union (x ∷ xs) ys = omega (arith, length_with (union_of xs ys) x, length_union xs ys)

-- kinds
-- the parts with an atom that fits both
kind_taken : (k : ℕ) (xs ys : List Atom) (a : Atom) → AllOfKind k xs → AllOfKind k ys → fits xs a ≡ true → fits ys a ≡ true → (l : ℕ) × (kind_of a ≡ l) × AllOfKind l xs × AllOfKind l ys
kind_taken k [] [] a h g f e = (kind_of a, refl, tt, tt)
kind_taken k [] (y ∷ ys) a h g f e = (k, sym (eqb-true (kind_of y) (kind_of a) e) ∙ g.0, h, g)
kind_taken k (x ∷ xs) ys a h g f e = (k, sym (eqb-true (kind_of x) (kind_of a) f) ∙ h.0, h, g)

pub parted_settled : (xs ys : List Atom) (a : Atom) → IsParted xs ys → fits xs a ≡ true → fits ys a ≡ true → IsParted (with_atom xs a) ys
parted_settled xs ys a p f e =
    let taken = kind_taken p.kind xs ys a p.settled_kind p.waiting_kind f e in
    record {
      settled_rises = IsRising-with_atom a xs p.settled_rises;
      waiting_rises = p.waiting_rises;
      kind = taken.0;
      settled_kind = kind_with_atom taken.0 a xs taken.1 taken.2;
      waiting_kind = taken.3;
    }

pub parted_waiting : (xs ys : List Atom) (a : Atom) → IsParted xs ys → fits xs a ≡ true → fits ys a ≡ true → IsParted xs (with_atom ys a)
parted_waiting xs ys a p f e =
    let taken = kind_taken p.kind xs ys a p.settled_kind p.waiting_kind f e in
    record {
      settled_rises = p.settled_rises;
      waiting_rises = IsRising-with_atom a ys p.waiting_rises;
      kind = taken.0;
      settled_kind = taken.2;
      waiting_kind = kind_with_atom taken.0 a ys taken.1 taken.3;
    }

pub parted_merged : (xs ys : List Atom) → IsParted xs ys → IsParted (union_of xs ys) []
parted_merged xs ys p = record {
  settled_rises = IsRising-union_of xs ys p.waiting_rises;
  waiting_rises = tt;
  kind = p.kind;
  settled_kind = kind_union_of p.kind xs ys p.settled_kind p.waiting_kind;
  waiting_kind = tt;
}

-- the whole takes an atom that both parts take, and no other
abbrev takes : ℕ → Atom → Bool
takes k a = nat_eq k (kind_of a)

with_takes : (k : ℕ) (xs : List Atom) (x a : Atom) → AllOfKind k (with_atom xs x) → fits (with_atom xs x) a ≡ takes k a
with_takes k [] x a h = ap (λ l. takes l a) h.0
with_takes k (y ∷ ys) x a h = at_first (less x y) (less y x) h
  where
    at_first : (t u : Bool) → AllOfKind k (cond t (x ∷ y ∷ ys) (cond u (y ∷ with_atom ys x) (y ∷ ys))) → fits (cond t (x ∷ y ∷ ys) (cond u (y ∷ with_atom ys x) (y ∷ ys))) a ≡ takes k a
    at_first true u h = ap (λ l. takes l a) h.0
    at_first false true h = ap (λ l. takes l a) h.0
    at_first false false h = ap (λ l. takes l a) h.0

pub union_takes : (xs ys : List Atom) (a : Atom) → IsParted xs ys → fits (union_of xs ys) a ≡ (fits xs a && fits ys a)
union_takes [] ys a p = refl
union_takes (x ∷ xs) [] a p =
    with_takes p.kind (union_of xs []) x a (kind_union_of p.kind (x ∷ xs) [] p.settled_kind tt) ∙ (ap (λ l. takes l a) (sym p.settled_kind.0) ∙ and_one (takes (kind_of x) a))
union_takes (x ∷ xs) (y ∷ ys) a p =
    with_takes p.kind (union_of xs (y ∷ ys)) x a (kind_union_of p.kind (x ∷ xs) (y ∷ ys) p.settled_kind p.waiting_kind) ∙
    (and_again (takes p.kind a) ∙ ((λ i. takes (sym p.settled_kind.0 i) a && takes p.kind a) ∙ (λ i. takes (kind_of x) a && takes (sym p.waiting_kind.0 i) a)))

-- ---- what calls answer, where a set is the union of its parts

module _ (whole xs ys : List Atom) (is : union_of xs ys ≡ whole) where
  pub one_part : IsRising xs → ys ≡ [] → xs ≡ whole
  one_part rise none = sym (sym is ∙ (ap (union_of xs) none ∙ with_nothing xs rise))

  pub few_limited : length xs + length ys ≤ MOST_ELEMENTS → limited whole ≡ Ok whole
  few_limited few = limited_few whole (let most : length whole ≤ length xs + length ys = subst (λ zs. length zs ≤ length xs + length ys) is (length_union xs ys) in omega arith)

  pub refused_settled : (a : Atom) → IsParted xs ys → fits xs a ≡ false → added whole a ≡ Err Kind
  refused_settled a p h =
      ap (λ s. added s a) (sym is) ∙ ap (λ b. cond b (limited (with_atom (union_of xs ys) a)) (Err Kind)) (union_takes xs ys a p ∙ ap (λ b. b && fits ys a) h)

  pub refused_waiting : (a : Atom) → IsParted xs ys → fits ys a ≡ false → added whole a ≡ Err Kind
  refused_waiting a p h =
      ap (λ s. added s a) (sym is) ∙ ap (λ b. cond b (limited (with_atom (union_of xs ys) a)) (Err Kind)) (union_takes xs ys a p ∙ (ap (λ b. fits xs a && b) h ∙ and_false (fits xs a)))

  pub taken : (a : Atom) (more : List Atom) (r : Result (List Atom) EvalFault) → IsParted xs ys → fits xs a ≡ true → fits ys a ≡ true → more ≡ with_atom (union_of xs ys) a → Gives r (limited more) → Gives r (added whole a)
  taken a more r p f e more_is gives =
      let fit : fits (union_of xs ys) a ≡ true = union_takes xs ys a p ∙ (ap (λ b. b && fits ys a) f ∙ e) in
      let is_limited : added whole a ≡ limited more = ap (λ s. added s a) (sym is) ∙ (ap (λ b. cond b (limited (with_atom (union_of xs ys) a)) (Err Kind)) fit ∙ ap limited (sym more_is)) in
      subst (Gives r) (sym is_limited) gives

module _ (zs ws xs ys : List Atom) (is : zs ≡ union_of xs ys) (none : ws ≡ []) (p : IsParted xs ys) where
  merged_whole : union_of zs ws ≡ union_of xs ys
  merged_whole = ap (union_of zs) none ∙ (ap (λ us. union_of us []) is ∙ with_nothing (union_of xs ys) (IsRising-union_of xs ys p.waiting_rises))

  pub merged_parted : IsParted zs ws
  merged_parted = subst (λ us. IsParted zs us) (sym none) (subst (λ us. IsParted us []) (sym is) (parted_merged xs ys p))

  pub merged_same : (whole : List Atom) → union_of xs ys ≡ whole → union_of zs ws ≡ whole
  merged_same whole same_whole = merged_whole ∙ same_whole

  pub merged_limited : length zs ≤ MOST_ELEMENTS → limited (union_of xs ys) ≡ Ok (union_of zs ws)
  merged_limited few = limited_few (union_of xs ys) (subst (λ us. length us ≤ MOST_ELEMENTS) is few) ∙ ap Ok (sym merged_whole)
