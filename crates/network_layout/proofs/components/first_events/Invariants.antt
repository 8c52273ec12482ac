use Rattle.network_layout.proofs.Prelude.{◌≡◌, range_with_len}
use Rattle.network_layout.proofs.components.first_events.Given as goal

-- the events below the number
abbrev pub invariant-loop-number : goal.invariant-loop-number
invariant-loop-number l = l.events ≡ range_with_len 0 l.number
