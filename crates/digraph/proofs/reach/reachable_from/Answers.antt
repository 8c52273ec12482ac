use Rattle.digraph.proofs.Reaching.{distinct_over}
use Rattle.digraph.proofs.reach.reachable_from.Goals as goal

pub returns-clause-distinct : goal.returns-clause-distinct
returns-clause-distinct c = rw c.in_ok-add_reached.ensures.order (distinct_over c.args.rows.now c.args.sources.now c.add_reached.new.found)
