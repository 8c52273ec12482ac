use Rattle.csp_steps.proofs.Prelude.{take, AreAdded}
use Rattle.csp_steps.proofs.once.add_each.Given as goal

abbrev pub invariant-loop-step : goal.invariant-loop-step
invariant-loop-step l = AreAdded l.initial.numbered (take l.step-index l.steps) l.numbered
