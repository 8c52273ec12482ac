-- What the report of a network counts: the nodes of all normal tables.
use Rattle.std.specs.Prelude.{ℕ, ◌+◌, List, [], ◌∷◌, length}
use Rattle.csp_tables.specs.Part.{Part}

abbrev pub node_count : List Part → ℕ
node_count [] = 0
node_count (part ∷ parts) = length part.table + node_count parts
