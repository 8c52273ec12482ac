use Rattle.worked_scripts.proofs.page.Page.push_steps.Goals as goal

pub steps_in-requires-clause-fits : goal.steps_in-requires-clause-fits
steps_in-requires-clause-fits c = c.new-evaluated.ensures c.args.program.now c.args.pool.now
