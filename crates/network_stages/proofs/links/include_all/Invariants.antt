use Rattle.network_stages.proofs.Prelude.{◌≡◌, ◌||◌, ℕ, take, has, has_event}
use Rattle.network_stages.proofs.links.include_all.Given as goal

abbrev pub invariant-loop-event : goal.invariant-loop-event
invariant-loop-event l = (e : ℕ) → has l.events e ≡ (has l.initial.events e || has_event (take l.event-index l.pairs) e)
