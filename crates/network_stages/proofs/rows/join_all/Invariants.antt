use Rattle.network_stages.proofs.Prelude.{◌≡◌, ◌++◌, ℕ, length, joints, row_at}
use Rattle.network_stages.proofs.rows.join_all.Given as goal

abbrev pub invariant-loop-event : goal.invariant-loop-event
invariant-loop-event l =
    (length l.rows.items ≡ length l.initial.rows.items)
    × ((i : ℕ) → row_at l.rows.items i ++ joints l.owners l.part i l.event-iterator ≡ row_at l.initial.rows.items i ++ joints l.owners l.part i l.events)
