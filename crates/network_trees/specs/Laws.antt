-- The walk of a program's network gives a tree exactly where the program spells it within the limits. So a program spells at most one network, and none where the walk meets a fault.
use Rattle.std.specs.Prelude.{◌≡◌, ◌↔◌, Ok}
use Rattle.csp_tables.specs.Network.{Tree}
use Rattle.network_trees.specs.NetworkOf.{network_of}
use Rattle.network_trees.specs.Spelled.{IsSpelledBy}
use Rattle.csp_program.specs.declared.processes.Proc.{Proc}
use Rattle.csp_program.specs.declared.programs.Content.{Content}

abbrev pub WalksMakeNetworks : Type 0
WalksMakeNetworks = (p : Content) (tree : Tree Proc) → network_of p ≡ Ok tree ↔ IsSpelledBy p tree
