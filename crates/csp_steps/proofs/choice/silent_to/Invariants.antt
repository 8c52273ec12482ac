use Rattle.csp_steps.proofs.Prelude.{◌≡◌, map, take, Silent}
use Rattle.csp_steps.proofs.choice.silent_to.Given as goal

abbrev pub invariant-loop-id : goal.invariant-loop-id
invariant-loop-id l = l.steps ≡ map (λ id. record { label = Silent; to = id }) (take l.id-index l.ids)
