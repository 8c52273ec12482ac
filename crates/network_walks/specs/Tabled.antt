-- Components with their tables, as a walk by numbers sees them. (For private contracts: no public one cites this.)
use Rattle.std.specs.Prelude.{List, [], ◌∷◌}
use Rattle.csp_program.specs.declared.processes.Proc.{Proc}
use Rattle.csp_tables.specs.Network.{Component}
use Rattle.network_stages.specs.declared.component_tables.ComponentTable.{ComponentTable}
use Rattle.numbered_walks.specs.Numbered.{Numbered}

abbrev pub one_numbered : Component Proc → ComponentTable → Numbered
one_numbered c t = record { alphabet = c.alphabet; table = t.local.table }

abbrev pub numbered : List (Component Proc) → List ComponentTable → List Numbered
numbered [] ts = []
numbered (c ∷ cs) [] = []
numbered (c ∷ cs) (t ∷ ts) = one_numbered c t ∷ numbered cs ts
