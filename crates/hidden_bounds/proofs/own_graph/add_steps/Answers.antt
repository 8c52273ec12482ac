use Rattle.hidden_bounds.proofs.OwnGraphs.{step_within}
use Rattle.hidden_bounds.proofs.own_graph.add_steps.Goals as goal

pub add_step-requires-clause-from : goal.add_step-requires-clause-from
add_step-requires-clause-from c = (step_within c.args.table.now _ c.loop-step.step-index _ c.step-item.result c.steps-step-items.ensures.form c.steps-step-items.ensures.value c.loop-step-test.true c.step-item.is c.loop-step.invariant.size).0

pub add_step-requires-clause-to : goal.add_step-requires-clause-to
add_step-requires-clause-to c = (step_within c.args.table.now _ c.loop-step.step-index _ c.step-item.result c.steps-step-items.ensures.form c.steps-step-items.ensures.value c.loop-step-test.true c.step-item.is c.loop-step.invariant.size).1
