use Rattle.hidden_bounds.proofs.Prelude.{◌≡◌, ℕ, nat_eq, ◌&&◌, ◌||◌, length, take, list_any, has, has_arc}
use Rattle.hidden_bounds.proofs.own_graph.add_steps.Given as goal

abbrev pub invariant-loop-step : goal.invariant-loop-step
invariant-loop-step l = record {
  size : length l.rows ≡ l.table.count;
  arcs : (s t : ℕ) → has_arc l.rows s t ≡ (has_arc l.fn.rows s t || list_any (λ step. nat_eq s step.0 && has l.events step.1 && nat_eq t step.2) (take l.step-index l.step-items));
}
