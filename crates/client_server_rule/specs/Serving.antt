-- Who serves whom on a link. (For private contracts: no public one cites this.)
use Rattle.std.specs.Prelude.{◌<◌, ℕ, List, length}
use Rattle.csp_tables.specs.Shape.{Joins}
use Rattle.design_rules.specs.ClientServer.{IsClientOn, Serves}
use Rattle.digraph.specs.Prelude.{AreHeights}
use Rattle.client_server_conditions.specs.Network.{Network}

-- an arc from each client to its servers
abbrev pub ServesIn : Network → ℕ → ℕ → Type 0
ServesIn network = Serves network.shape network.roles

-- the heights of the parts along these arcs
abbrev pub HaveHeights : Network → List ℕ → Type 0
HaveHeights network heights = AreHeights (ServesIn network) (length network.shape.parts) heights

-- on the link the part i is the client, and j the server
pub record ServesOn (network : Network) (l i j : ℕ) : Type 0 where
  pub joins : Joins network.shape i j l
  pub client : IsClientOn network.shape network.roles l i j

-- on one of the first n links
abbrev pub ServesBelow : Network → ℕ → ℕ → ℕ → Type 0
ServesBelow network n i j = (l : ℕ) × (l < n) × ServesOn network l i j
