use Rattle.term_sets.proofs.Prelude.{◌<◌, length, ◌∙◌, step_from}
use Rattle.term_sets.proofs.MoveLists.{moves_more, length_more}
use Rattle.term_sets.proofs.rows.add_steps.Goals as goal

pub push_at-requires : goal.push_at-requires
push_at-requires c = rw c.loop-from.invariant.size (step_from c.args.table.now c.steps-from-items.ensures.form c.steps-from-items.result.now c.steps-from-items.ensures.value c.loop-from.from-index c.loop-from-item.result c.loop-from-test.true c.loop-from-item.is)

pub loop-from-preserved : goal.loop-from-preserved
loop-from-preserved c =
    let before = c.loop-from.invariant in
    let below : c.loop-from-item.result.0 < c.args.table.now.count = step_from c.args.table.now c.steps-from-items.ensures.form c.steps-from-items.result.now c.steps-from-items.ensures.value c.loop-from.from-index c.loop-from-item.result c.loop-from-test.true c.loop-from-item.is in
    let within : c.loop-from-item.result.0 < length c.loop-from.rows.items = rw before.size below in
    record {
      size = length_more _ _ _ _ c.in_ok-push_at.ensures ∙ before.size;
      same = λ s e t. moves_more _ _ _ _ _ c.loop-from-test.true c.loop-from-item.is within c.in_ok-push_at.ensures s e t (before.same s e t);
    }
