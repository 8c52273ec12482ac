-- Why components have no tables, in the words of the report, excludes that they have them: so each comes exactly where it holds.
use Rattle.std.specs.Prelude.{ℕ, List}
use Rattle.csp_program.specs.declared.processes.Proc.{Proc}
use Rattle.csp_program.specs.declared.programs.Content.{Content}
use Rattle.csp_tables.specs.Network.{Component}
use Rattle.report.specs.declared.answer.Refusal.{Refusal}
use Rattle.network_stages.specs.Stages.{HaveNoTables}
use Rattle.network_stages.specs.Tables.{AreTablesOf}
use Rattle.network_stages.specs.declared.component_tables.ComponentTable.{ComponentTable}

abbrev pub FaultsExcludeAllTables : Type 0
FaultsExcludeAllTables =
    (p : Content) (cs : List (Component Proc)) (ts : List ComponentTable) (n : ℕ) (r : Refusal) → AreTablesOf p cs ts → HaveNoTables p n cs r → ⊥
