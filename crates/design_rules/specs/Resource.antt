-- The rule of users and resources, read by the tables of a shape: what its decider decides.
use Rattle.std.specs.Prelude.{ℕ, List}
use Rattle.csp_tables.specs.Prelude.{Shape, UseSets}
use Rattle.design_rules.specs.ByTables.{by_tables}
pub use Rattle.design_rules.specs.ResourceRule.{JoinsKinds, HasUses, HaveKinds, is_held, last_from, IsHolder, holds, acquires}
use Rattle.design_rules.specs.ResourceRule as rule

abbrev pub IsUsedInTurn : Shape → List UseSets → ℕ → List ℕ → Type 0
IsUsedInTurn shape = rule.IsUsedInTurn shape (by_tables shape)

abbrev pub GrantsAll : Shape → List UseSets → ℕ → List ℕ → Type 0
GrantsAll shape = rule.GrantsAll shape (by_tables shape)

abbrev pub UsesInTurn : Shape → List UseSets → ℕ → List ℕ → Type 0
UsesInTurn shape = rule.UsesInTurn shape (by_tables shape)

abbrev pub KeepUses : Shape → List UseSets → Type 0
KeepUses shape = rule.KeepUses shape (by_tables shape)

abbrev pub IsHeldWhile : Shape → List UseSets → ℕ → ℕ → Type 0
IsHeldWhile shape = rule.IsHeldWhile shape (by_tables shape)

abbrev pub ResourcesRise : Shape → List UseSets → (ℕ → ℕ) → Type 0
ResourcesRise shape = rule.ResourcesRise shape (by_tables shape)

abbrev pub CanBeOrdered : Shape → List UseSets → Type 0
CanBeOrdered shape = rule.CanBeOrdered shape (by_tables shape)

abbrev pub IsResource : Shape → List UseSets → Type 0
IsResource shape = rule.IsResource shape (by_tables shape)
