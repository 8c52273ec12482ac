-- A shape with roles whose links each have a client. (No rule's decider cites this.)
use Rattle.std.specs.Prelude.{◌≡◌, ◌<◌, ℕ, List, length}
use Rattle.csp_tables.specs.Prelude.{Shape, Joins, IsWellFormed, RoleSets}
use Rattle.design_rules.specs.ClientServer.{HasRoles, HasClient, IsClientOn}

pub record Network : Type 0 where
  pub shape : Shape
  pub roles : List RoleSets

-- the shape is well formed, and S1 and S2 hold
pub record IsLinked (network : Network) : Type 0 where
  pub form : IsWellFormed network.shape
  pub count : length network.roles ≡ length network.shape.parts
  pub parted : (i : ℕ) → i < length network.shape.parts → HasRoles network.shape network.roles i
  pub linked : (l : ℕ) → l < length network.shape.links → HasClient network.shape network.roles l

-- the part is the client on the link
pub record Asks (network : Network) (i l : ℕ) : Type 0 where
  pub server : ℕ
  pub joins : Joins network.shape i server l
  pub client : IsClientOn network.shape network.roles l i server

-- the part is the server on the link
pub record Grants (network : Network) (i l : ℕ) : Type 0 where
  pub asker : ℕ
  pub joins : Joins network.shape asker i l
  pub client : IsClientOn network.shape network.roles l asker i
