use Rattle.definition_kinds.proofs.Prelude.{◌≡◌, ℕ, ◌&&◌, ◌||◌, nat_eq, length, take, has_arc, some_from}
use Rattle.definition_kinds.proofs.arcs.add_ends.Given as goal

abbrev pub invariant-loop-end : goal.invariant-loop-end
invariant-loop-end l = record {
  len : length l.rows ≡ length l.initial.rows;
  arcs : (v w : ℕ) → has_arc l.rows v w ≡ (has_arc l.initial.rows v w || (some_from l.sought.count l.sought.target v (take l.end-index l.ends) && nat_eq w l.d));
}
