use Rattle.term_pool.specs.Trees.{tree_at}
use Rattle.csp_steps.proofs.Forms.{each_external}
use Rattle.csp_steps.proofs.look.look_each_external.Goals as goal

pub returns-clause-look : goal.returns-clause-look
returns-clause-look c =
    λ p s h. each_external p c.each_put.new.pool c.in_ok-ids.ids c.args.name s (tree_at c.args.pool.now c.args.id) c.args.atoms.now h c.in_ok-ids.ensures.places
