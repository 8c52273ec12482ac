-- The shape of a network in which no event is in three alphabets.
use Rattle.csp_tables.specs.Prelude.{leaves, TripleDisjoint, Shape, IsShapeOf}
use Rattle.network_layout.specs.Triple.{alphabets}
use Rattle.process_steps.specs.ComponentStep.{ProcessStep}
use Rattle.network_stages.specs.Networks.{Network}

-- no event is in three alphabets, and this is the shape of the network
pub record IsApart (network : Network) (shape : Shape) : Type 0 where
  pub apart : TripleDisjoint (alphabets (leaves network.tree))
  pub is : IsShapeOf (ProcessStep network.program) network.tree shape
