use Rattle.term_sets.proofs.Prelude.{◌≡◌, ℕ, [], ◌&&◌, nat_eq, length, take, get_or, list_any, has_move}
use Rattle.term_sets.proofs.rows.add_steps.Given as goal

abbrev pub invariant-loop-from : goal.invariant-loop-from
invariant-loop-from l = record {
  size : length l.rows.items ≡ l.table.count;
  same : (s e t : ℕ) → has_move (get_or l.rows.items s []) e t ≡ list_any (λ step. nat_eq s step.0 && nat_eq e step.1 && nat_eq t step.2) (take l.from-index l.from-items);
}
