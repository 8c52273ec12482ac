use Rattle.std.proofs.Common.{arith}
use Rattle.acceptances.proofs.Terms.{silent_from}
use Rattle.acceptances.proofs.offers.unstable_marks.Goals as goal

pub index_mut-requires : goal.index_mut-requires
index_mut-requires c = omega (arith, c.loop-from.marks.ok.0, c.loop-from.invariant.one_each, silent_from c.args.table.now c.silent-from-items.ensures.form c.silent-from-items.result.now c.silent-from-items.ensures.value c.loop-from.from-index c.loop-from-test.true)
