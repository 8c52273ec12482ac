-- The ranking of a client-server network is good.
--
-- Let i ask j for an event of their link, and let nothing of it be granted. If i is the client, j stands higher in the walk to
-- servers. It takes no requests: where the link is closed, i asks for a request, and j would take all of them if it took
-- any; where the link is open, j takes none. So its rank is its height, which is below both ranks that i may have. If i is the
-- server and the link is closed, i offers to take requests, so its rank is above the rank that any of its clients may have.
-- If the link is open, i offers an acknowledgement, and the client takes all of them: a contradiction.
use Rattle.std.specs.Prelude.{List}
use Rattle.csp_tables.specs.Prelude.{Shape, IsWellFormed, RoleSets, Ranking, Falls}
use Rattle.design_rules.specs.ClientServer.{IsClientServer}
use Rattle.design_rules.specs.ClientServerRanking.{IsClientServerRanking}

abbrev pub ClientServerRanksFall : Type 0
ClientServerRanksFall = (shape : Shape) (roles : List RoleSets) (ranking : Ranking) → IsWellFormed shape → IsClientServer shape roles → IsClientServerRanking shape roles ranking → Falls shape.parts ranking
