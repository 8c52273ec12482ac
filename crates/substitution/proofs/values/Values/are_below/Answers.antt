use Rattle.substitution.proofs.NamesFound.{all_below}
use Rattle.substitution.proofs.values.Values.are_below.Goals as goal

pub returns-then-end_by : goal.returns-then-end_by
returns-then-end_by c = λ below.
    all_below c.self.inside.hidden c.self.inside.first c.self.inside.first_bound c.self.inside.names.now c.self.inside.values.now c.self.inside.bound.now
    c.args.self.now c.args.least c.self.view_is c.self.invariant.0 c.self.invariant.1 (c.end_by.ensures c.if-end_by.true) (c.end_by-then-end_by.ensures below)
