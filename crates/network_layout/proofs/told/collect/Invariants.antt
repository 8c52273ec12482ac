use Rattle.network_layout.proofs.Prelude.{◌≡◌, Ok, take, all_outcomes}
use Rattle.network_layout.proofs.told.collect.Given as goal

-- what is told of the components so far has values
abbrev pub invariant-loop-part : goal.invariant-loop-part
invariant-loop-part g l = all_outcomes (g.T.Noted.told l.program) (take l.part l.seats) ≡ Ok l.made
