use Rattle.network_stages.proofs.Prelude.{◌≡◌, ℕ, cond, Some, has, owner_of}
use Rattle.network_stages.proofs.rows.own_all.Given as goal

abbrev pub invariant-loop-event : goal.invariant-loop-event
invariant-loop-event l = (e : ℕ) → cond (has l.event-iterator e) (Some l.part) (owner_of l.owners.items e) ≡ cond (has l.events e) (Some l.part) (owner_of l.initial.owners.items e)
