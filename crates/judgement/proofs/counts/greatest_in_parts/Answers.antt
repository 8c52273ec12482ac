use Rattle.judgement.proofs.Prelude.{ap, ◌∙◌, flat_map, take_all, greatest_from}
use Rattle.judgement.proofs.Counting.{one_part}
use Rattle.judgement.proofs.counts.greatest_in_parts.Goals as goal

pub greatest_in_rows-most-requires : goal.greatest_in_rows-most-requires
greatest_in_rows-most-requires c = c.loop-part.invariant.1

pub loop-part-preserved : goal.loop-part-preserved
loop-part-preserved c = (
  one_part c.args.start c.args.parts.now _ _ _ _ c.loop-part-test.true c.part-item.is c.loop-part.invariant.0
      (c.greatest_in_rows-most.ensures.greatest ∙ ap (λ rows. greatest_from c.loop-part.most (flat_map (λ row. row) rows)) c.ranks.ensures),
  c.greatest_in_rows-most.ensures.small,
)

pub returns : goal.returns
returns c = record {
  greatest = c.loop-part.invariant.0 ∙ ap (λ parts. greatest_from c.args.start (flat_map (λ part. flat_map (λ row. row) part.ranks) parts)) (take_all _ c.args.parts.now c.loop-part-test.false);
  small = c.loop-part.invariant.1;
}
