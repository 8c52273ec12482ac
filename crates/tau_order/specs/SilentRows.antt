-- The silent steps of a numbered table as a digraph of its terms.
use Rattle.std.specs.Prelude.{◌≡◌, ℕ, length}
use Rattle.csp_tables.specs.Prelude.{RawTable, has_silent}
use Rattle.digraph.specs.Digraph.{Digraph, has_arc}

-- a vertex for each term, and an arc for each pair that has a silent step
pub record AreSilentRows (raw : RawTable) (g : Digraph) : Type 0 where
  pub size : length g ≡ raw.count
  pub same : (s t : ℕ) → has_arc g s t ≡ has_silent raw s t
