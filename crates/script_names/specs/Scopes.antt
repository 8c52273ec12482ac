-- Scopes: the bound names at a place, with their numbers.
use Rattle.std.specs.Prelude.{ℕ, zero, suc, ◌+◌, if◌then◌else◌, Option, Some, None, List, [], ◌∷◌, ◌++◌, map}
use Rattle.script_names.specs.Names.{Name, same_name}

-- the bound names in the order in which they were bound
abbrev pub Scope : Type 0
Scope = List (Name × ℕ)

abbrev pub or_else : Option ℕ → Option ℕ → Option ℕ
or_else (Some n) other = Some n
or_else None other = other

-- the number of a bound name: that of the last one of this spelling
abbrev pub number_of : Scope → Name → Option ℕ
number_of [] x = None
number_of (b ∷ scope) x = or_else (number_of scope x) (if same_name x b.0 then Some b.1 else None)

abbrev pub names_of : Scope → List Name
names_of scope = map (λ b. b.0) scope

-- with one more bound name
abbrev pub with : Scope → Name → ℕ → Scope
with scope x n = scope ++ (x, n) ∷ []

-- the parameters of a definition, numbered from n on
abbrev pub parameters : ℕ → List Name → Scope
parameters n [] = []
parameters n (x ∷ xs) = (x, n) ∷ parameters (n + 1) xs

-- the numbers from n on, so many of them
abbrev pub numbers_from : ℕ → ℕ → List ℕ
numbers_from n zero = []
numbers_from n (suc k) = n ∷ numbers_from (n + 1) k
