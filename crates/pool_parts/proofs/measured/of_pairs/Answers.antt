use Rattle.pool_parts.proofs.Prelude.{refl, arith, common_steps, pair_free}
use Rattle.pool_parts.proofs.LowLemmas as low
use Rattle.pool_parts.proofs.measured.of_pairs.Goals as goal

pub loop-pair-init : goal.loop-pair-init
loop-pair-init c = record { small = grind (arith, common_steps); depth = grind (arith, common_steps); size = grind (arith, common_steps); low = low.low_start (low.each_free pair_free) c.args.pairs.now c.leaf-all.result.least }

pub loop-pair-preserved : goal.loop-pair-preserved
loop-pair-preserved c = record {
  small = grind (arith, common_steps);
  depth = grind (arith, common_steps);
  size = grind (arith, common_steps);
  low = low.low_step (low.each_free pair_free) c.args.pairs.now pair_free (low.each_split pair_free) c.loop-pair.pair-index c.pair-item.result c.loop-pair.all.least c.of_pair.result.least c.join-all.result.least
      c.loop-pair-test.true c.pair-item.is c.loop-pair.invariant.low c.join-all.ensures.least c.of_pair.ensures.low;
}

pub returns-clause-low : goal.returns-clause-low
returns-clause-low c = low.low_end (low.each_free pair_free) c.args.pairs.now refl c.loop-pair.pair-index c.loop-pair.all.least c.loop-pair-test.false c.loop-pair.invariant.low
