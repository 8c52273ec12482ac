use Rattle.step_values.proofs.Prelude.{subst, Gives}
use Rattle.step_values.proofs.Arguments.{arguments_worth}
use Rattle.step_values.proofs.needed.arguments_in.Goals as goal

pub returns : goal.returns
returns c = subst (Gives c.eval_all_under.result) (arguments_worth c.args.program.now c.args.args.now) c.eval_all_under.ensures
