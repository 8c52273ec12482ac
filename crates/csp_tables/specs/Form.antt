-- The form of a table over an alphabet.
use Rattle.std.specs.Prelude.{◌<◌, ◌≤◌, ℕ, List, [], ◌∷◌, length, IsTrue}
use Rattle.dl_limits.specs.declared.TheConstants.{MOST_SETS}
use Rattle.csp_base.specs.Members.{has}
use Rattle.csp_tables.specs.Trace.{IsWithin}
use Rattle.csp_tables.specs.Table.{Node}
use Rattle.csp_tables.specs.Part.{Part}

-- the first event, if there is one, is above the bound
abbrev pub BeginsAbove : ℕ → List (ℕ × ℕ) → Type 0
BeginsAbove e [] = Unit {0}
BeginsAbove e (step ∷ steps) = e < step.0

-- The events rise strictly and are of the alphabet, and each leads to one of the nodes.
abbrev pub StepsHaveForm : List ℕ → ℕ → List (ℕ × ℕ) → Type 0
StepsHaveForm alphabet nodes [] = Unit {0}
StepsHaveForm alphabet nodes (step ∷ steps) = IsTrue (has alphabet step.0) × (step.1 < nodes) × BeginsAbove step.0 steps × StepsHaveForm alphabet nodes steps

-- each acceptance is of the alphabet
abbrev pub AreWithin : List ℕ → List (List ℕ) → Type 0
AreWithin alphabet [] = Unit {0}
AreWithin alphabet (M ∷ Ms) = IsWithin M alphabet × AreWithin alphabet Ms

abbrev pub NodesHaveForm : List ℕ → ℕ → List Node → Type 0
NodesHaveForm alphabet nodes [] = Unit {0}
NodesHaveForm alphabet nodes (n ∷ ns) = StepsHaveForm alphabet nodes n.next × AreWithin alphabet n.accept × NodesHaveForm alphabet nodes ns

-- There are 1 to 2,048 nodes, and each has its form.
pub record HasForm (p : Part) : Type 0 where
  pub least : 1 ≤ length p.table
  pub most : length p.table ≤ MOST_SETS
  pub nodes : NodesHaveForm p.alphabet (length p.table) p.table

abbrev pub HaveForm : List Part → Type 0
HaveForm [] = Unit {0}
HaveForm (p ∷ ps) = HasForm p × HaveForm ps
