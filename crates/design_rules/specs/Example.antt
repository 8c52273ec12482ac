-- Shapes that meet the three rules, with their rankings: the theorems speak of networks that there are.
use Rattle.std.specs.Prelude.{ℕ, pos, List, [], ◌∷◌, true, false}
use Rattle.csp_tables.specs.Prelude.{Part, alphabets_of, TripleDisjoint, Link, Shape, IsWellFormed, PartRanks, Ranking, RoleSets, UseSets}
use Rattle.design_rules.specs.Cyclic.{IsCyclic}
use Rattle.design_rules.specs.Resource.{IsResource}
use Rattle.design_rules.specs.ResourceRanking.{IsResourceRanking}
use Rattle.design_rules.specs.CyclicRanking.{IsCyclicRanking}
use Rattle.design_rules.specs.ClientServer.{IsClientServer}
use Rattle.design_rules.specs.ClientServerRanking.{IsClientServerRanking}

-- Four components in a row, three links: the events 0, 1 and 2 are those of the first, the second and the third link. The
-- outer components do their one event again and again, and each of the inner ones its two in turn.
abbrev pub repeats : ℕ → Part
repeats a = record { alphabet = a ∷ []; table = record { next = (a, 0) ∷ []; accept = (a ∷ []) ∷ [] } ∷ [] }

abbrev pub alternates : ℕ → ℕ → Part
alternates a b = record { alphabet = a ∷ b ∷ []; table = record { next = (a, 1) ∷ []; accept = (a ∷ []) ∷ [] } ∷ record { next = (b, 0) ∷ []; accept = (b ∷ []) ∷ [] } ∷ [] }

abbrev pub one_event : ℕ → ℕ → ℕ → Link
one_event i j e = record { left = i; right = j; shared = e ∷ [] }

abbrev pub row_of_three : Shape
row_of_three = record { parts = repeats 0 ∷ alternates 0 1 ∷ alternates 1 2 ∷ repeats 2 ∷ []; links = one_event 0 1 0 ∷ one_event 1 2 1 ∷ one_event 2 3 2 ∷ []; vocabulary = 0 ∷ 1 ∷ 2 ∷ [] }

abbrev pub one_rank : ℕ → ℕ → PartRanks
one_rank rank lap = record { ranks = (pos rank ∷ []) ∷ []; laps = (lap ∷ []) ∷ [] }

abbrev pub two_ranks : ℕ → ℕ → ℕ → ℕ → PartRanks
two_ranks first lap second other_lap = record { ranks = (pos first ∷ []) ∷ (pos second ∷ []) ∷ []; laps = (lap ∷ []) ∷ (other_lap ∷ []) ∷ [] }

-- the links have the numbers 0, 1 and 2; the event on a component's last link ends its lap
abbrev pub row_ranking : Ranking
row_ranking = record { scale = pos 3; parts = one_rank 0 1 ∷ two_ranks 0 0 1 1 ∷ two_ranks 1 0 2 1 ∷ one_rank 2 1 ∷ [] }

pub record RowIsCyclic : Type 0 where
  pub form : IsWellFormed row_of_three
  pub rule : IsCyclic row_of_three
  pub ranking : IsCyclicRanking row_of_three row_ranking

-- A client and a server. On their link the event 0 is the request, and the event 1 the acknowledgement: the link opens with each
-- request and closes with each acknowledgement.
abbrev pub pair : Shape
pair = record { parts = alternates 0 1 ∷ alternates 0 1 ∷ []; links = record { left = 0; right = 1; shared = 0 ∷ 1 ∷ [] } ∷ []; vocabulary = 0 ∷ 1 ∷ [] }

abbrev pub pair_roles : List RoleSets
pair_roles = record { creq = 0 ∷ []; cack = 1 ∷ []; sreq = []; sack = [] } ∷ record { creq = []; cack = []; sreq = 0 ∷ []; sack = 1 ∷ [] } ∷ []

-- the client's height is 1; where the server takes a request it ranks 2 * 2 - 0, and where it acknowledges it ranks 0
abbrev pub pair_ranking : Ranking
pair_ranking = record { scale = pos 0; parts = two_ranks 1 0 1 0 ∷ two_ranks 4 0 0 0 ∷ [] }

pub record PairIsClientServer : Type 0 where
  pub form : IsWellFormed pair
  pub rule : IsClientServer pair pair_roles
  pub ranking : IsClientServerRanking pair pair_roles pair_ranking

-- Two users, 0 and 1, and two resources, 2 and 3. The user u acquires the resource 2 by the event u, then the resource 3 by
-- 4 + u; it releases 3 by 6 + u, and then 2 by 2 + u.
abbrev pub user : ℕ → ℕ → ℕ → ℕ → Part
user a c b d = record {
  alphabet = a ∷ c ∷ b ∷ d ∷ [];
  table = record { next = (a, 1) ∷ []; accept = (a ∷ []) ∷ [] } ∷ record { next = (b, 2) ∷ []; accept = (b ∷ []) ∷ [] } ∷ record { next = (d, 3) ∷ []; accept = (d ∷ []) ∷ [] } ∷ record { next = (c, 0) ∷ []; accept = (c ∷ []) ∷ [] } ∷ [];
}

-- the first user acquires it by a and releases it by c, the second one by b and d
abbrev pub shared_resource : ℕ → ℕ → ℕ → ℕ → Part
shared_resource a b c d = record {
  alphabet = a ∷ b ∷ c ∷ d ∷ [];
  table = record { next = (a, 1) ∷ (b, 2) ∷ []; accept = (a ∷ b ∷ []) ∷ [] } ∷ record { next = (c, 0) ∷ []; accept = (c ∷ []) ∷ [] } ∷ record { next = (d, 0) ∷ []; accept = (d ∷ []) ∷ [] } ∷ [];
}

abbrev pub two_events : ℕ → ℕ → ℕ → ℕ → Link
two_events i j a c = record { left = i; right = j; shared = a ∷ c ∷ [] }

abbrev pub two_users : Shape
two_users = record {
  parts = user 0 2 4 6 ∷ user 1 3 5 7 ∷ shared_resource 0 1 2 3 ∷ shared_resource 4 5 6 7 ∷ [];
  links = two_events 0 2 0 2 ∷ two_events 0 3 4 6 ∷ two_events 1 2 1 3 ∷ two_events 1 3 5 7 ∷ [];
  vocabulary = 0 ∷ 1 ∷ 2 ∷ 3 ∷ 4 ∷ 5 ∷ 6 ∷ 7 ∷ [];
}

abbrev pub no_resource : UseSets
no_resource = record { resource = false; acquire = []; release = [] }

abbrev pub two_users_uses : List UseSets
two_users_uses = no_resource ∷ no_resource ∷ record { resource = true; acquire = 0 ∷ 1 ∷ []; release = 2 ∷ 3 ∷ [] } ∷ record { resource = true; acquire = 4 ∷ 5 ∷ []; release = 6 ∷ 7 ∷ [] } ∷ []

abbrev pub user_ranks : PartRanks
user_ranks = record { ranks = (pos 4 ∷ []) ∷ (pos 2 ∷ []) ∷ (pos 0 ∷ []) ∷ (pos 0 ∷ []) ∷ []; laps = (0 ∷ []) ∷ (0 ∷ []) ∷ (0 ∷ []) ∷ (0 ∷ []) ∷ [] }

abbrev pub resource_ranks : ℕ → PartRanks
resource_ranks held = record { ranks = (pos 6 ∷ []) ∷ (pos held ∷ []) ∷ (pos held ∷ []) ∷ []; laps = (0 ∷ 0 ∷ []) ∷ (0 ∷ []) ∷ (0 ∷ []) ∷ [] }

-- With the numbers 1 and 2 for the resources. Free they rank 6, and held 3 and 1; a user ranks 4 where it acquires the first,
-- 2 where it acquires the second, and else 0.
abbrev pub two_users_ranking : Ranking
two_users_ranking = record { scale = pos 0; parts = user_ranks ∷ user_ranks ∷ resource_ranks 3 ∷ resource_ranks 1 ∷ [] }

pub record TwoUsersAreResource : Type 0 where
  pub form : IsWellFormed two_users
  pub triple : TripleDisjoint (alphabets_of two_users.parts)
  pub rule : IsResource two_users two_users_uses
  pub ranking : IsResourceRanking two_users two_users_uses two_users_ranking
