use Rattle.value_operators.proofs.Prelude.{◌≡◌, ◌+◌, ◌-◌, all_added, events_from}
use Rattle.value_operators.proofs.sets.add_events.Given as goal

-- what is left is still to be added
abbrev pub invariant-loop-place : goal.invariant-loop-place
invariant-loop-place l = all_added l.fn.atoms (events_from l.first l.count) ≡ all_added l.atoms (events_from (l.first + l.place) (l.count - l.place))
