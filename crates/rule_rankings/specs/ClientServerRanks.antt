-- The rank of an acceptance of a client or a server. (No rule's decider cites this.)
use Rattle.std.specs.Prelude.{◌≡◌, ◌<◌, ◌≤◌, ◌*◌, ℕ, ℤ, pos, ◌-ℤ◌, List, length, slice_index}
use Rattle.csp_tables.specs.Prelude.{Meet, AreApart, RoleSets, role_at, Shape}
use Rattle.dl_limits.specs.declared.TheConstants.{MOST_COMPONENTS}

-- the rank of acceptances with requests, where n parts are in the network
abbrev pub serving_rank : ℕ → ℕ → ℤ
serving_rank n height = pos (2 * n) -ℤ pos height

-- The rank of an acceptance of the part in place i: by its height, told by whether there are requests to it as a server.
pub record IsRank (shape : Shape) (roles : List RoleSets) (heights : List ℕ) (i : ℕ) (M : List ℕ) (rank : ℤ) : Type 0 where
  pub serves : Meet M (role_at roles i).sreq → rank ≡ serving_rank (length shape.parts) (slice_index heights i)
  pub asks : AreApart M (role_at roles i).sreq → rank ≡ pos (slice_index heights i)

-- what is known of a part that can be ranked
pub record CanRank (shape : Shape) (roles : List RoleSets) (heights : List ℕ) (i : ℕ) : Type 0 where
  pub role : i < length roles
  pub height : i < length heights
  pub below : slice_index heights i < length shape.parts
  pub few : length shape.parts ≤ MOST_COMPONENTS
