use Rattle.resource_rule.proofs.Prelude.{[], get_or, length, replicate, AddsArcs, Below, LeadsToHeld}
use Rattle.resource_rule.proofs.link_sets.resource_arcs.Given as goal

abbrev pub invariant-loop-link : goal.invariant-loop-link
invariant-loop-link l = AddsArcs (Below (λ k. LeadsToHeld l.setting k (get_or l.sets k [])) l.link) (replicate (length l.setting.shape.parts) []) l.rows
