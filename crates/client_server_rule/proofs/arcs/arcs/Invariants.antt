use Rattle.client_server_rule.proofs.Prelude.{◌≡◌, ℕ, length, HasArc, ServesBelow}
use Rattle.client_server_rule.proofs.arcs.arcs.Given as goal

abbrev pub invariant-loop-link : goal.invariant-loop-link
invariant-loop-link l = record {
  count : length l.rows ≡ length l.network.shape.parts;
  sound : (i j : ℕ) → HasArc l.rows i j → ServesBelow l.network l.link i j;
  complete : (i j : ℕ) → ServesBelow l.network l.link i j → HasArc l.rows i j;
}
