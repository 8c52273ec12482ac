use Rattle.shape_links.proofs.Prelude.{◌≡◌, ℕ, cond, slice_index, has}
use Rattle.shape_links.proofs.owners.set_owners.Given as goal

abbrev pub invariant-loop-event : goal.invariant-loop-event
invariant-loop-event l = (e : ℕ) → cond (has l.event-iterator e) l.owner (slice_index l.owners.items e) ≡ cond (has l.events e) l.owner (slice_index l.initial.owners.items e)
