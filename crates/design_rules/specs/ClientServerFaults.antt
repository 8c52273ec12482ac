-- What is told where a network is none of clients and servers, read by the tables of its shape.
use Rattle.std.specs.Prelude.{ℕ, List}
use Rattle.csp_tables.specs.Prelude.{Shape, RoleSets}
use Rattle.design_rules.specs.declared.condition.Condition.{Condition}
use Rattle.design_rules.specs.ByTables.{by_tables}
pub use Rattle.design_rules.specs.ClientServerRuleFaults.{LacksRoles, LacksClient, HaveClients}
use Rattle.design_rules.specs.ClientServerRuleFaults as rule

abbrev pub BreaksRoles : Shape → List RoleSets → Condition → ℕ → List ℕ → Type 0
BreaksRoles shape = rule.BreaksRoles shape (by_tables shape)

abbrev pub ClientsInCircle : Shape → List RoleSets → List ℕ → Type 0
ClientsInCircle shape = rule.ClientsInCircle shape (by_tables shape)
