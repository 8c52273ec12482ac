-- When a network matches its specification: exactly then the verdict is that it conforms. (That both are spelled holds the limits of scripts and of
-- networks; that their components have tables, those of components.)
use Rattle.std.specs.Prelude.{◌≡◌, ◌↔◌, List}
use Rattle.csp_tables.specs.Network.{leaves}
use Rattle.network_layout.specs.Triple.{alphabets}
use Rattle.network_stages.specs.Prelude.{Network, HaveFewSets, HasTables}
use Rattle.network_stages.specs.declared.component_tables.ComponentTable.{ComponentTable}
use Rattle.report.specs.Prelude.{verdict_status}
use Rattle.report.specs.declared.answer.Verdict.{Verdict}
use Rattle.comparison.specs.Agreement.{printed_events}
use Rattle.comparison.specs.Compared.{IsCompared}
use Rattle.comparison.specs.Conforming.{ComponentsConform}

-- Each component has a table: it reaches finitely many terms, within the limits, of which none can end or lacks a value or goes round in silent steps.
-- Its traces lead to few sets of terms.
pub record IsWithinLimits (network : Network) : Type 0 where
  pub tables : List ComponentTable
  pub are : HasTables network tables
  pub few : HaveFewSets network.program (leaves network.tree)

-- Both are within the limits, with the same events and the same alphabets, and each component conforms to the one in its place.
pub record Matches (network specified : Network) : Type 0 where
  pub within : IsWithinLimits network
  pub specified_within : IsWithinLimits specified
  pub events : printed_events network.program ≡ printed_events specified.program
  pub shape : alphabets (leaves network.tree) ≡ alphabets (leaves specified.tree)
  pub conform : ComponentsConform network specified

-- the verdict on a network and its specification has the status 0 exactly where they match
abbrev pub ComparisonIsExact : Type 0
ComparisonIsExact = (network specified : Network) (v : Verdict) → IsCompared network specified v → (verdict_status v ≡ 0) ↔ Matches network specified
