use Rattle.csp_atoms.proofs.Prelude.{◌≡◌, take, event_atoms}
use Rattle.csp_atoms.proofs.sorted.events.Given as goal

abbrev pub invariant-loop-atom : goal.invariant-loop-atom
invariant-loop-atom l = event_atoms l.made.items ≡ take l.atom-index l.atoms
