-- The order of atoms: by kind, which is numbers, truth values, constants, events, and within a kind by number, false before true.
use Rattle.std.specs.Prelude.{ℕ, ℤ, pos, Bool, nat_eq, if◌then◌else◌}
use Rattle.csp_base.specs.Standard.{Ordering, nat_cmp, int_cmp, ordering_then, is_lt, is_eq}
use Rattle.csp_atoms.specs.declared.atom.Atom.{Atom}
use Rattle.csp_atoms.specs.declared.atom.Atom.TheVariants as atom

-- the place of an atom's kind among the kinds
abbrev pub kind_of : Atom → ℕ
kind_of (atom.Num n) = 0
kind_of (atom.Truth b) = 1
kind_of (atom.Const k) = 2
kind_of (atom.Event e) = 3

-- an atom's number within its kind
abbrev pub atom_number : Atom → ℤ
atom_number (atom.Num n) = n
atom_number (atom.Truth b) = pos (if b then 1 else 0)
atom_number (atom.Const k) = pos k
atom_number (atom.Event e) = pos e

-- how two atoms compare
abbrev pub order_of : Atom → Atom → Ordering
order_of a b = ordering_then (nat_cmp (kind_of a) (kind_of b)) (int_cmp (atom_number a) (atom_number b))

-- whether the first comes before the second
unfoldable pub less : Atom → Atom → Bool
less a b = is_lt (order_of a b)

-- whether both are one atom
unfoldable pub same : Atom → Atom → Bool
same a b = is_eq (order_of a b)

-- whether both are of one kind
abbrev pub same_kind : Atom → Atom → Bool
same_kind a b = nat_eq (kind_of a) (kind_of b)
