-- What a scope keeps of the names that it has bound.
use Rattle.std.specs.Prelude.{◌≡◌, if◌then◌else◌, ◌∷◌, ◌++◌, ℕ, Option, List, []}
use Rattle.script_names.specs.Prelude.{Name, same_name, Scope, number_of}
use Rattle.std.specs.BTreeMap.{BTreeMap}
use Rattle.name_tables.specs.declared.scope.Binding.{Binding}
use Rattle.name_tables.specs.Spelling.{Spelling, at_name}

-- a bound name with its number
abbrev pub shown : Binding → Name × ℕ
shown b = (b.name, b.number)

-- each of these bindings, which come after others, keeps the number of the name that it hides
abbrev pub KeepHidden : Scope → List Binding → Type 0
KeepHidden front [] = Unit {0}
KeepHidden front (b ∷ bs) = (b.hidden ≡ number_of front b.name) × KeepHidden (front ++ shown b ∷ []) bs

-- the map has the number of each bound name
abbrev pub HasNumbers : BTreeMap Spelling ℕ → Scope → Type 0
HasNumbers last scope = (x : Name) → at_name last x ≡ number_of scope x

-- the map has this number for the name x, and for all others what it had
abbrev pub Writes : BTreeMap Spelling ℕ → BTreeMap Spelling ℕ → Name → Option ℕ → Type 0
Writes old new x number = (y : Name) → at_name new y ≡ (if same_name y x then number else at_name old y)
