use Rattle.std.proofs.Common.{arith}
use Rattle.csp_steps.proofs.Doubles.{added_begin, added_end, added_next}
use Rattle.csp_steps.proofs.once.add_each.Goals as goal

pub loop-step-init : goal.loop-step-init
loop-step-init c = added_begin c.args.numbered.now c.args.steps.now

pub loop-step-preserved : goal.loop-step-preserved
loop-step-preserved c =
    added_next c.args.numbered.now c.args.steps.now c.loop-step.step-index c.step-item.result (omega arith) c.step-item.is c.loop-step.numbered c.number.new.self _ c.in_ok-number.ensures.list c.in_ok-number.ensures.place c.loop-step.invariant

pub returns : goal.returns
returns c = added_end c.args.numbered.now c.args.steps.now c.loop-step.numbered c.loop-step.step-index (omega arith) c.loop-step.invariant
