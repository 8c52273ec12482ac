-- Results of operations on sets of atoms are sets of atoms.
use Rattle.csp_atoms.proofs.Prelude.{◌≡◌, ℕ, ◌+◌, ◌<◌, Bool, true, refl, sym, ◌∙◌, ap, subst, List, [], ◌∷◌, Option, Some, arith, pos, false≢true, eqb-true, int_ranked, ints, filter, IsStrictlyIncreasing, int_cmp, is_lt, Ordering, Less, Equal, Greater, kind_of, less, AllAbove, IsRising, AllOfKind, IsOneKind, IsAtomSet, with_atom, union_of, fits, alike, event_atoms, event_numbers, Atom, RisesFrom, increasing_from_rises}
use Rattle.csp_atoms.specs.declared.atom.Atom.TheVariants as atom
use Rattle.csp_atoms.proofs.EventLaws.{atoms_of_numbers}
use Rattle.csp_atoms.proofs.ListLaws.{IsRising-with_atom, IsRising-union_of, IsRising-filter, IsOneKind-filter, kind_with_atom, kind_union_of, kind_first, one_kind}

IsOneKind-with_atom : (xs : List Atom) (a : Atom) → IsOneKind xs → fits xs a ≡ true → IsOneKind (with_atom xs a)
IsOneKind-with_atom [] a r h = tt
IsOneKind-with_atom (x ∷ xs) a r h =
    one_kind (kind_of x) (with_atom (x ∷ xs) a) (kind_with_atom (kind_of x) a (x ∷ xs) (sym (eqb-true (kind_of x) (kind_of a) h)) (kind_first x xs r))

IsOneKind-union_of : (xs ys : List Atom) → IsOneKind xs → IsOneKind ys → alike xs ys ≡ true → IsOneKind (union_of xs ys)
IsOneKind-union_of [] ys r s h = s
IsOneKind-union_of (x ∷ xs) [] r s h = one_kind (kind_of x) (union_of (x ∷ xs) []) (kind_union_of (kind_of x) (x ∷ xs) [] (kind_first x xs r) tt)
IsOneKind-union_of (x ∷ xs) (y ∷ ys) r s h =
    let same_kinds : kind_of x ≡ kind_of y = eqb-true (kind_of x) (kind_of y) h in
    one_kind (kind_of x) (union_of (x ∷ xs) (y ∷ ys))
    (kind_union_of (kind_of x) (x ∷ xs) (y ∷ ys) (kind_first x xs r) (subst (λ k. AllOfKind k (y ∷ ys)) (sym same_kinds) (kind_first y ys s)))

pub IsAtomSet-with_atom : (xs : List Atom) (a : Atom) → IsAtomSet xs → fits xs a ≡ true → IsAtomSet (with_atom xs a)
IsAtomSet-with_atom xs a r h = (IsRising-with_atom a xs r.0, IsOneKind-with_atom xs a r.1 h)

pub IsAtomSet-union_of : (xs ys : List Atom) → IsAtomSet xs → IsAtomSet ys → alike xs ys ≡ true → IsAtomSet (union_of xs ys)
IsAtomSet-union_of xs ys r s h = (IsRising-union_of xs ys s.0, IsOneKind-union_of xs ys r.1 s.1 h)

pub IsAtomSet-filter : (p : Atom → Bool) (xs : List Atom) → IsAtomSet xs → IsAtomSet (filter p xs)
IsAtomSet-filter p xs r = (IsRising-filter p xs r.0, IsOneKind-filter p xs r.1)

-- ---- sets of events

events_rise : (o : Ordering) (d e : ℕ) → o ≡ int_cmp (pos d) (pos e) → is_lt o ≡ true → d < e
events_rise Less d e is h = let l = int_ranked (pos d) (pos e) Less is in omega (arith, ints, l)
events_rise Equal d e is h = absurd (false≢true h)
events_rise Greater d e is h = absurd (false≢true h)

below_event : (d e : ℕ) → less (atom.Event d) (atom.Event e) ≡ true → d < e
unfolding less
below_event d e h = events_rise (int_cmp (pos d) (pos e)) d e refl h

increase_from : (d : ℕ) (es : List ℕ) → AllAbove (atom.Event d) (event_atoms es) → IsRising (event_atoms es) → RisesFrom (d + 1) es
increase_from d [] a r = tt
increase_from d (e ∷ es) a r = (let l : d < e = below_event d e a.0 in omega arith, increase_from e es r.0 r.1)

increasing_atoms : (es : List ℕ) → IsRising (event_atoms es) → IsStrictlyIncreasing es
increasing_atoms [] r = increasing_from_rises 0 [] tt
increasing_atoms (e ∷ es) r = increasing_from_rises 0 (e ∷ es) (omega arith, increase_from e es r.0 r.1)

-- the numbers of events that rise as atoms
pub increasing_numbers : (xs : List Atom) (es : List ℕ) → IsAtomSet xs → Some es ≡ event_numbers xs → IsStrictlyIncreasing es
increasing_numbers xs es r h = increasing_atoms es (subst IsRising (atoms_of_numbers xs es h) r.0)

-- the events that a call found, read through a slice of them
pub increasing_slice : (xs : List Atom) (ds es : List ℕ) (found : Option (List ℕ)) (slice : List Atom) → ds ≡ es → found ≡ Some es → found ≡ event_numbers slice → slice ≡ xs → IsAtomSet xs → IsStrictlyIncreasing ds
increasing_slice xs ds es found slice d f g h r = subst IsStrictlyIncreasing (sym d) (increasing_numbers xs es r (sym f ∙ g ∙ ap event_numbers h))
