use Rattle.observed_runs.proofs.Prelude.{◌≤◌, ◌+◌, [], ◌∷◌, length, ap, ◌∙◌, arith, slice_index, length-append}
use Rattle.observed_runs.proofs.Keeping.{within_marks, one_more_row}
use Rattle.observed_runs.proofs.steps.all_enough.Goals as goal

pub enough-requires : goal.enough-requires
enough-requires c = record {
  nodes = within_marks c.args.part.now c.nodes-nodes.result.now c.loop-number.number (length c.loop-number.marks) c.index-nodes-number.result c.next.result.now c.requires.form (c.loop-number.auto.marks ∙ c.requires.marks) (c.nodes-nodes.ensures.value ∙ c.table.ensures)
      c.loop-number-test.true c.index-nodes-number.is c.next.ensures;
  unmarked = λ node. let low : slice_index c.loop-number.marks node ≤ c.loop-number.number = c.loop-number.invariant.marks_are node in omega arith;
}

pub loop-number-preserved : goal.loop-number-preserved
loop-number-preserved c = record {
  count = ap length c.in_ok-push.ensures.ok ∙ length-append c.loop-number.rows (c.in_ok-some.some ∷ []) ∙ ap (λ n. n + 1) c.loop-number.invariant.count;
  each = one_more_row c.args.part.now c.args.events.now c.nodes-nodes.result.now c.loop-number.number c.index-nodes-number.result c.next.result.now c.in_ok-some.some c.loop-number.rows c.push.new.self (c.nodes-nodes.ensures.value ∙ c.table.ensures) c.loop-number-test.true c.index-nodes-number.is c.next.ensures c.in_ok-some.ensures.enough c.loop-number.invariant.count c.in_ok-push.ensures.ok c.loop-number.invariant.each;
  marks_are = c.in_ok-some.ensures.marked;
}
