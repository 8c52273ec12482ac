use Rattle.hidden_steps.proofs.Agreeing.{no_order, one_rest}
use Rattle.hidden_steps.proofs.orders_agree.Goals as goal

pub returns-clause-excluded : goal.returns-clause-excluded
returns-clause-excluded g c = no_order g.S.Transitions.step

pub returns-clause-others : goal.returns-clause-others
returns-clause-others g c = one_rest g.S.Transitions.step
