-- The sets that a script tells of a component: the requests and acknowledgements of a client and of a server; what acquires
-- and what releases a resource. A component of which nothing is told has empty sets.
use Rattle.std.specs.Prelude.{ℕ, List, [], Bool, false, get_or}

-- requests and acknowledgements as a client, requests and acknowledgements as a server
pub record RoleSets : Type 0 where
  pub creq : List ℕ
  pub cack : List ℕ
  pub sreq : List ℕ
  pub sack : List ℕ

abbrev pub role_at : List RoleSets → ℕ → RoleSets
role_at roles i = get_or roles i (record { creq = []; cack = []; sreq = []; sack = [] })

pub record UseSets : Type 0 where
  pub resource : Bool
  pub acquire : List ℕ
  pub release : List ℕ

abbrev pub use_at : List UseSets → ℕ → UseSets
use_at uses i = get_or uses i (record { resource = false; acquire = []; release = [] })
