use Rattle.client_server_conditions.specs.Sides.{AreSides}
use Rattle.client_server_conditions.proofs.clients.sides.Given as goal

abbrev pub invariant-loop-link : goal.invariant-loop-link
invariant-loop-link l = AreSides l.shape l.roles l.link l.sides.items
