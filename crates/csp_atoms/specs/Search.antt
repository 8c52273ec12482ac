-- Binary search in a rising list of atoms.
use Rattle.std.specs.Prelude.{ℕ, zero, suc, Bool, false, if◌then◌else◌, List, [], ◌∷◌}
use Rattle.csp_atoms.specs.Order.{less, same}
use Rattle.csp_atoms.specs.declared.atom.Atom.{Atom}

-- how many atoms at the front come before the given one: its place in the order
abbrev pub count_before : List Atom → Atom → ℕ
count_before [] a = 0
count_before (b ∷ bs) a = if less b a then suc (count_before bs a) else 0

-- whether the atom stands at that place
abbrev pub stands_at : List Atom → ℕ → Atom → Bool
stands_at [] place a = false
stands_at (b ∷ bs) zero a = same b a
stands_at (b ∷ bs) (suc place) a = stands_at bs place a
