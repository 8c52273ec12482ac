use Rattle.numbered_walks.proofs.Prelude.{◌∙◌, ap, length, arith, length_push}
use Rattle.numbered_walks.proofs.Owning.{row_more}
use Rattle.numbered_walks.proofs.owners.grow.Goals as goal

pub loop-alloc-preserved : goal.loop-alloc-preserved
loop-alloc-preserved c =
    let count = ap length c.in_ok-push.ensures.items ∙ length_push c.loop-alloc.rows.items c.new.result in
    let low = c.loop-alloc-test.true in
    record {
      rows = λ e. row_more c.loop-alloc.rows.items c.push.new.self.items c.new.result c.new.ensures c.in_ok-push.ensures.items e ∙ c.loop-alloc.invariant.rows e;
      small = omega (arith, count, low);
    }
