use Rattle.local_tables.proofs.Prelude.{◌≤◌, ◌++◌, ℕ, List, length, reverse, Proc, AreLed, LeadsToTerm, Task}
use Rattle.local_tables.proofs.origins.trace_to.Given as goal

abbrev pub invariant-loop-at : goal.invariant-loop-at
invariant-loop-at l = record {
  within : l.at ≤ length l.origins;
  leads : (task : Task) (terms : List Proc) → AreLed task terms l.origins → (s : List ℕ) → LeadsToTerm task terms s l.at
      → LeadsToTerm task terms (s ++ reverse l.events.items) l.number;
}

abbrev pub decreases-loop-at : goal.decreases-loop-at
decreases-loop-at l = l.at
