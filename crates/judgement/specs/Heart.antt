-- The theorem behind each answer "deadlock-free", at programs, as a call (`conclude`): a network over whose tables a ranking falls is live, with its silent
-- bound, which is the sum of the greatest silent heights of its components.
use Rattle.std.specs.Prelude.{◌≡◌, ℕ, List, length, map}
use Rattle.csp_tables.specs.Network.{leaves}
use Rattle.net_sound.specs.Heights.{sum_of_greatest}
use Rattle.network_stages.specs.Prelude.{HasSilentBound, IsLive, Network}
use Rattle.network_stages.specs.declared.component_tables.ComponentTable.{ComponentTable}

-- the sum of the greatest silent heights
abbrev pub bound_of : List ComponentTable → ℕ
bound_of tables = sum_of_greatest (map (λ t. t.heights) tables)

-- two numbers of a network that is proved
pub record Proved : Type 0 where
  pub components : ℕ
  pub bound : ℕ

-- The network has this number of components. It is live with this bound, which is exactly its silent bound.
pub record IsProved (network : Network) (proved : Proved) : Type 0 where
  pub count : proved.components ≡ length (leaves network.tree)
  pub exact : HasSilentBound network proved.bound
  pub live : IsLive network proved.bound
