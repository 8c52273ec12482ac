-- Membership in a list of numbers (events, mostly), as a test that computes.
use Rattle.std.specs.Prelude.{ℕ, Bool, nat_eq, List}
use Rattle.std.specs.List.{list_any}

-- whether x stands in the list
abbrev pub has : List ℕ → ℕ → Bool
has xs x = list_any (λ y. nat_eq y x) xs
