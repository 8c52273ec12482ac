use Rattle.judgement.proofs.Prelude.{ap, ◌∙◌, map, flat_map, take_all, greatest_from}
use Rattle.judgement.proofs.Counting.{one_row}
use Rattle.judgement.proofs.counts.greatest_in_rows.Goals as goal

pub greatest_in_row-most-requires : goal.greatest_in_row-most-requires
greatest_in_row-most-requires c = c.loop-row.invariant.1

pub loop-row-preserved : goal.loop-row-preserved
loop-row-preserved c = (
  one_row c.args.start c.args.rows.now _ _ _ _ c.loop-row-test.true c.row-item.is c.loop-row.invariant.0
      (c.greatest_in_row-most.ensures.greatest ∙ ap (greatest_from c.loop-row.most) c.as_slice.ensures.value),
  c.greatest_in_row-most.ensures.small,
)

pub returns : goal.returns
returns c = record {
  greatest = c.loop-row.invariant.0 ∙ ap (λ rows. greatest_from c.args.start (flat_map (λ row. row) (map (λ row. row.items) rows))) (take_all _ c.args.rows.now c.loop-row-test.false);
  small = c.loop-row.invariant.1;
}
