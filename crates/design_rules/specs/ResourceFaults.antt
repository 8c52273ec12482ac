-- What is told where a network is none of users and resources, read by the tables of its shape.
use Rattle.std.specs.Prelude.{ℕ, List}
use Rattle.csp_tables.specs.Prelude.{Shape, UseSets}
use Rattle.design_rules.specs.declared.condition.Condition.{Condition}
use Rattle.design_rules.specs.ByTables.{by_tables}
pub use Rattle.design_rules.specs.ResourceRuleFaults.{HasKind, LacksKind}
use Rattle.design_rules.specs.ResourceRuleFaults as rule

abbrev pub KeepsHolder : Shape → List UseSets → ℕ → List ℕ → Type 0
KeepsHolder shape = rule.KeepsHolder shape (by_tables shape)

abbrev pub KeepsGrants : Shape → List UseSets → ℕ → List ℕ → Type 0
KeepsGrants shape = rule.KeepsGrants shape (by_tables shape)

abbrev pub KeepsTurns : Shape → List UseSets → ℕ → List ℕ → Type 0
KeepsTurns shape = rule.KeepsTurns shape (by_tables shape)

abbrev pub BreaksUses : Shape → List UseSets → Condition → ℕ → List ℕ → Type 0
BreaksUses shape = rule.BreaksUses shape (by_tables shape)

abbrev pub ResourcesInCircle : Shape → List UseSets → List ℕ → Type 0
ResourcesInCircle shape = rule.ResourcesInCircle shape (by_tables shape)
