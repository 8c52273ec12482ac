use Rattle.std.proofs.Common.{◌<◌, length, arith}
use Rattle.cyclic_conditions.proofs.Noting.{first_within}
use Rattle.cyclic_conditions.proofs.facts.fact_of.Goals as goal

pub returns-clause-none : goal.returns-clause-none
returns-clause-none c _ r x =
    let within : r < length c.args.firsts.now = first_within c.args.firsts.now r c.args.link x in
    c.loop-first.invariant r (omega arith) x
