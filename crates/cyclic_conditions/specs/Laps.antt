-- A component along the places of its lap. (No public contract cites this.)
use Rattle.std.specs.Prelude.{◌<◌, ◌-◌, ℕ, List, length}
use Rattle.csp_tables.specs.Prelude.{alphabets_of, TripleDisjoint, Shape, IsWellFormed}
use Rattle.design_rules.specs.Prelude.{links_of}
use Rattle.observed_runs.specs.Prelude.{AreFound, IsExploration, LeadsTo, lap_step}
use Rattle.shape_links.specs.Component.{table_of}
use Rattle.cyclic_conditions.specs.declared.laps.Laps.{Laps}

abbrev pub shape_of : Laps → Shape
shape_of laps = laps.component.shape.now

-- how many links the component has
abbrev pub links_along : Laps → ℕ
links_along laps = links_of (shape_of laps) laps.component.number

-- the place after an event, from the place before it
abbrev pub next_place : Laps → ℕ → ℕ → ℕ
next_place laps = lap_step (shape_of laps).vocabulary (links_along laps - 1)

-- The component has links, and what was found are the pairs of a node and a place to which its runs lead.
pub record AreLaps (laps : Laps) : Type 0 where
  pub form : IsWellFormed (shape_of laps)
  pub apart : TripleDisjoint (alphabets_of (shape_of laps).parts)
  pub part : laps.component.number < length (shape_of laps).parts
  pub some : 0 < links_along laps
  pub explored : IsExploration (table_of laps.component) (next_place laps) 0 laps.explored.pairs
  pub origins : AreFound (table_of laps.component) (next_place laps) 0 laps.explored

-- the run leads to the pair
abbrev pub Leads : Laps → List ℕ → ℕ × ℕ → Type 0
Leads laps = LeadsTo (table_of laps.component) (next_place laps) 0
