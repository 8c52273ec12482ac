use Rattle.event_tables.proofs.Prelude.{arith, lent, spread}
use Rattle.event_tables.proofs.SetLaws.{spread_end, spread_step}
use Rattle.event_tables.proofs.sets.spread_sets.Goals as goal

pub loop-one-preserved : goal.loop-one-preserved
loop-one-preserved c =
    spread_step (lent c.add_lent.new.all.items) (lent c.loop-one.all.items) (spread c.args.shared.now) c.loop-one.one-index c.args.shared.now c.one-item.result
    c.loop-one-test.true c.one-item.is c.in_ok-add_lent.ensures c.loop-one.invariant

pub returns : goal.returns
returns c = spread_end (lent c.loop-one.all.items) (spread c.args.shared.now) c.loop-one.one-index c.args.shared.now (omega arith) c.loop-one.invariant
