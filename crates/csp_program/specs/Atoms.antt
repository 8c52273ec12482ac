-- Sets of atoms that grow while an expression is evaluated: at most 16,384 elements, of one kind.
use Rattle.std.specs.Prelude.{ℕ, zero, suc, ◌+◌, ℤ, pos, ◌+ℤ◌, nat_le, if◌then◌else◌, Ok, Err, List, [], ◌∷◌, length}
use Rattle.dl_limits.specs.declared.TheConstants.{MOST_ELEMENTS}
use Rattle.csp_atoms.specs.Prelude.{fits, with_atom}
use Rattle.csp_atoms.specs.declared.atom.Atom.{Atom}
use Rattle.csp_atoms.specs.declared.atom.Atom.TheVariants as atom
use Rattle.csp_program.specs.Outcome.{Outcome, and_then}
use Rattle.csp_program.specs.declared.kinds.ValueKind.TheVariants.{Kind, SetLimit}

-- a set of at most 16,384 elements
abbrev pub limited : List Atom → Outcome (List Atom)
limited atoms = if nat_le (length atoms) MOST_ELEMENTS then Ok atoms else Err SetLimit

-- the set with one more atom: a mix of kinds or too many elements is a fault
abbrev pub added : List Atom → Atom → Outcome (List Atom)
added atoms a = if fits atoms a then limited (with_atom atoms a) else Err Kind

-- the set with all atoms of a list, from the left
abbrev pub set_with : List Atom → List (Outcome Atom) → Outcome (List Atom)
set_with atoms [] = Ok atoms
set_with atoms (o ∷ rest) = and_then o (λ a. and_then (added atoms a) (λ more. set_with more rest))

-- the numbers from m on, so many of them
abbrev pub numbers_from : ℤ → ℕ → List Atom
numbers_from m zero = []
numbers_from m (suc k) = atom.Num m ∷ numbers_from (m +ℤ pos 1) k
