use Rattle.term_pool.specs.Trees.{tree_at}
use Rattle.csp_steps.proofs.Alike.{each_fault, each_steps}
use Rattle.csp_steps.proofs.steps.steps_in.Goals as goal

pub returns-clause-steps : goal.returns-clause-steps
returns-clause-steps c = each_steps c.args.program.now c.steps_at.new.pool (tree_at c.args.pool.now c.args.id) c.steps_at.result c.steps_at.ensures.steps

pub returns-clause-fault : goal.returns-clause-fault
returns-clause-fault c = each_fault c.steps_at.new.pool c.steps_at.result _ c.steps_at.ensures.steps
