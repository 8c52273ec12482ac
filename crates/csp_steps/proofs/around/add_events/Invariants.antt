use Rattle.csp_steps.proofs.Prelude.{◌≡◌, ◌++◌, map, take, Visible}
use Rattle.csp_steps.proofs.around.add_events.Given as goal

abbrev pub invariant-loop-event : goal.invariant-loop-event
invariant-loop-event l = l.steps ≡ l.fn.steps ++ map (λ e. record { label = Visible e; to = l.to }) (take l.event-index l.events)
