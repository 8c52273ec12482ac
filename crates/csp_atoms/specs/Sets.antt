-- Sets of atoms as contracts see them: lists of atoms of one kind that rise strictly.
use Rattle.std.specs.Prelude.{◌≡◌, ℕ, ◌+◌, Bool, true, false, not, ◌&&◌, ◌||◌, if◌then◌else◌, Option, Some, None, List, [], ◌∷◌}
use Rattle.std.specs.List.{filter}
use Rattle.csp_atoms.specs.Order.{kind_of, less, same, same_kind}
use Rattle.csp_atoms.specs.declared.atom.Atom.{Atom}
use Rattle.csp_atoms.specs.declared.atom.Atom.TheVariants as atom

-- the atom comes before all of the list
abbrev pub AllAbove : Atom → List Atom → Type 0
AllAbove a [] = Unit {0}
AllAbove a (b ∷ bs) = (less a b ≡ true) × AllAbove a bs

-- each atom comes before all that follow it
abbrev pub IsRising : List Atom → Type 0
IsRising [] = Unit {0}
IsRising (a ∷ rest) = AllAbove a rest × IsRising rest

-- all atoms of the list have that kind
abbrev pub AllOfKind : ℕ → List Atom → Type 0
AllOfKind k [] = Unit {0}
AllOfKind k (a ∷ rest) = (kind_of a ≡ k) × AllOfKind k rest

-- all atoms of the list have the kind of the first
abbrev pub IsOneKind : List Atom → Type 0
IsOneKind [] = Unit {0}
IsOneKind (a ∷ rest) = AllOfKind (kind_of a) rest

-- what is true of each set
abbrev pub IsAtomSet : List Atom → Type 0
IsAtomSet atoms = IsRising atoms × IsOneKind atoms

-- whether the atom comes before all of the list, which is of its kind
abbrev pub leads : Atom → List Atom → Bool
leads a [] = true
leads a (b ∷ bs) = less a b && (same_kind a b && leads a bs)

-- whether the list is a set: it rises, and is of one kind
abbrev pub is_set : List Atom → Bool
is_set [] = true
is_set (a ∷ rest) = leads a rest && is_set rest

-- whether the atom is a member
abbrev pub has_atom : List Atom → Atom → Bool
has_atom [] a = false
has_atom (b ∷ bs) a = same b a || has_atom bs a

-- one more than a place, where there is one
abbrev pub one_more : Option ℕ → Option ℕ
one_more None = None
one_more (Some n) = Some (n + 1)

-- the place of the atom in the set, from 0
abbrev pub place_of : List Atom → Atom → Option ℕ
place_of [] a = None
place_of (b ∷ bs) a = if same b a then Some 0 else one_more (place_of bs a)

-- the set with the atom at its place in the order, or the same where it is there already
abbrev pub with_atom : List Atom → Atom → List Atom
with_atom [] a = a ∷ []
with_atom (b ∷ bs) a = if less a b then a ∷ b ∷ bs else (if less b a then b ∷ with_atom bs a else b ∷ bs)

-- the members of either
abbrev pub union_of : List Atom → List Atom → List Atom
union_of [] bs = bs
union_of (a ∷ rest) bs = with_atom (union_of rest bs) a

-- the members of both
abbrev pub inter_of : List Atom → List Atom → List Atom
inter_of xs ys = filter (has_atom ys) xs

-- the members of the first that are no members of the second
abbrev pub diff_of : List Atom → List Atom → List Atom
diff_of xs ys = filter (λ a. not (has_atom ys a)) xs

-- whether the set can take the atom: it is empty, or its atoms are of the atom's kind
abbrev pub fits : List Atom → Atom → Bool
fits [] a = true
fits (b ∷ bs) a = same_kind b a

-- whether two sets can be put together: one of them is empty, or both are of one kind
abbrev pub alike : List Atom → List Atom → Bool
alike xs [] = true
alike xs (b ∷ bs) = fits xs b

-- the number of the event that an atom is
abbrev pub event_number : Atom → Option ℕ
event_number (atom.Event e) = Some e
event_number _ = None

-- the numbers of the events of the list, None if one of its atoms is no event
abbrev pub both_events : Option ℕ → Option (List ℕ) → Option (List ℕ)
both_events (Some e) (Some es) = Some (e ∷ es)
both_events _ _ = None

abbrev pub event_numbers : List Atom → Option (List ℕ)
event_numbers [] = Some []
event_numbers (a ∷ rest) = both_events (event_number a) (event_numbers rest)

-- the events as atoms
abbrev pub event_atoms : List ℕ → List Atom
event_atoms [] = []
event_atoms (e ∷ es) = atom.Event e ∷ event_atoms es
