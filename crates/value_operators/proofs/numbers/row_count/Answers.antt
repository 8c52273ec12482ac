use Rattle.value_operators.proofs.Prelude.{◌*◌, ap, ◌∙◌, min, arith, row_count}
use Rattle.value_operators.proofs.EventSteps.{count_step}
use Rattle.value_operators.proofs.numbers.row_count.Goals as goal

pub loop-set-preserved : goal.loop-set-preserved
loop-set-preserved c = record {
  within = omega (arith, c.saturating_mul-count.ensures);
  so_far =
      count_step c.loop-set.count c.saturating_mul-count.result 18446744073709551615 c.loop-set.set-index c.args.sets.now c.set-item.result (row_count c.args.sets.now)
      c.loop-set-test.true c.set-item.is (c.saturating_mul-count.ensures ∙ ap (λ n. min (c.loop-set.count * n) 18446744073709551615) c.len.ensures) c.loop-set.invariant.so_far;
}
