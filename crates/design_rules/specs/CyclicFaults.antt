-- What is told where a network is not cyclic, read by the tables of its shape.
use Rattle.std.specs.Prelude.{ℕ, List}
use Rattle.csp_tables.specs.Shape.{Shape}
use Rattle.design_rules.specs.ByTables.{by_tables}
pub use Rattle.design_rules.specs.CyclicRuleFaults.{Clash, ends_of}
use Rattle.design_rules.specs.CyclicRuleFaults as rule

abbrev pub BreaksOrder : Shape → ℕ → List ℕ → ℕ → Type 0
BreaksOrder shape = rule.BreaksOrder shape (by_tables shape)

abbrev pub HasNoOrder : Shape → ℕ → List ℕ → ℕ → Type 0
HasNoOrder shape = rule.HasNoOrder shape (by_tables shape)

abbrev pub OrdersDisagree : Shape → List (ℕ × ℕ) → Type 0
OrdersDisagree shape = rule.OrdersDisagree shape (by_tables shape)

abbrev pub HasNoWholeEnd : Shape → ℕ → ℕ → List ℕ → List ℕ → Type 0
HasNoWholeEnd shape = rule.HasNoWholeEnd shape (by_tables shape)
