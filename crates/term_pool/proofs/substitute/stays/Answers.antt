-- No name that is free in the process gets a value.
use Rattle.term_pool.proofs.Prelude.{proc_free, given_by, get_none, tree_at, proc_stays}
use Rattle.term_pool.proofs.substitute.stays.Goals as goal

pub returns : goal.returns
returns c = λ below.
    proc_stays (given_by c.args.values.now) (tree_at c.args.pool.now c.args.id)
    (get_none c.measure.result.least (given_by c.args.values.now) (proc_free (tree_at c.args.pool.now c.args.id)) (c.are_below.ensures below) c.measure.ensures.low)
