use Rattle.tau_order.proofs.Prelude.{◌≡◌, ℕ, nat_eq, ◌&&◌, length, take, list_any, has_arc}
use Rattle.tau_order.proofs.silent_runs.silent_rows.Given as goal

abbrev pub invariant-loop-from : goal.invariant-loop-from
invariant-loop-from l = record {
  size : length l.rows ≡ l.table.count;
  arcs : (s t : ℕ) → has_arc l.rows s t ≡ list_any (λ step. nat_eq s step.0 && nat_eq t step.1) (take l.from-index l.from-items);
}
