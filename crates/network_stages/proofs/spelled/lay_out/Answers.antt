use Rattle.network_stages.proofs.Prelude.{subst, Content, AreSeatsOf}
use Rattle.network_stages.proofs.Spelling.{seats_of}
use Rattle.network_stages.proofs.spelled.lay_out.Goals as goal

pub invariant_of-result : goal.invariant_of-result
invariant_of-result c = subst (λ (p : Content). AreSeatsOf p c.in-Ok.layout) c.get.ensures (seats_of c.get.result.now c.in-Ok.layout c.in-Ok.ensures.seats)

pub returns-in-Ok-clause-spelled : goal.returns-in-Ok-clause-spelled
returns-in-Ok-clause-spelled c = (subst (λ (p : Content). AreSeatsOf p c.in-Ok.layout) c.get.ensures (seats_of c.get.result.now c.in-Ok.layout c.in-Ok.ensures.seats)).spelled
