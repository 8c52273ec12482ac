-- Names by their numbers: those that get no value, those that are bound further in, and those that count up.
use Rattle.std.specs.Prelude.{◌≡◌, ℕ, ◌+◌, ◌≤◌, Bool, true, ◌&&◌, nat_eq, if◌then◌else◌, Option, Some, None, List, [], ◌∷◌}
use Rattle.csp_atoms.specs.declared.atom.Atom.{Atom}
use Rattle.csp_atoms.specs.declared.value.Value.{Value}
use Rattle.csp_atoms.specs.declared.value.Value.TheVariants.{One}
use Rattle.csp_base.specs.Members.{has}
use Rattle.csp_program.specs.Prelude.{Given, Env}

-- no name from this number on gets a value
abbrev pub NoneFrom : ℕ → Given → Type 0
NoneFrom least given = (x : ℕ) → least ≤ x → given x ≡ None

-- an environment without the names that are bound further in
abbrev pub but_for : List ℕ → Env → Env
but_for hidden [] = []
but_for hidden (b ∷ env) = if has hidden b.0 then but_for hidden env else b ∷ but_for hidden env

-- whether the names count up from the first one
abbrev pub counts_up : ℕ → List ℕ → Bool
counts_up first [] = true
counts_up first (x ∷ xs) = nat_eq x first && counts_up (first + 1) xs

-- the first of some names that count up; without it, nothing is said of them
abbrev pub CountUp : Option ℕ → List ℕ → Type 0
CountUp None xs = Unit {0}
CountUp (Some first) xs = counts_up first xs ≡ true

-- so many names that count up from the first one are below the number
abbrev pub EndBy : Option ℕ → ℕ → ℕ → Type 0
EndBy None count least = ⊥
EndBy (Some first) count least = first + count ≤ least

-- the atom that a name is bound to, if there is one, and the other value else
abbrev pub atom_or : Option Atom → Option Value → Option Value
atom_or None other = other
atom_or (Some a) other = Some (One a)
