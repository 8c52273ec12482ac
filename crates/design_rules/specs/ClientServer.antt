-- The rule of clients and servers, read by the tables of a shape: what its decider decides.
use Rattle.std.specs.Prelude.{ℕ, List}
use Rattle.csp_tables.specs.Prelude.{Shape, RoleSets}
use Rattle.design_rules.specs.ByTables.{by_tables}
pub use Rattle.design_rules.specs.ClientServerRule.{HasRoles, IsClientOn, HasClient, has_acknowledgements, is_open, is_request, is_acknowledgement, Serves}
use Rattle.design_rules.specs.ClientServerRule as rule

abbrev pub TakesTurns : Shape → List RoleSets → ℕ → List ℕ → Type 0
TakesTurns shape = rule.TakesTurns shape (by_tables shape)

abbrev pub ServesAll : Shape → List RoleSets → ℕ → List ℕ → Type 0
ServesAll shape = rule.ServesAll shape (by_tables shape)

abbrev pub TakesAnswers : Shape → List RoleSets → ℕ → List ℕ → Type 0
TakesAnswers shape = rule.TakesAnswers shape (by_tables shape)

abbrev pub KeepRoles : Shape → List RoleSets → Type 0
KeepRoles shape = rule.KeepRoles shape (by_tables shape)

abbrev pub IsClientServer : Shape → List RoleSets → Type 0
IsClientServer shape = rule.IsClientServer shape (by_tables shape)
