use Rattle.csp_steps.proofs.Forms.{internal}
use Rattle.csp_steps.proofs.look.look_internal.Goals as goal

pub returns : goal.returns
returns c = λ trees p below. internal p trees c.args.ids.now c.in_ok-steps.steps c.in_ok-steps.ensures below
