use Rattle.judgement.proofs.Prelude.{ap, ◌∙◌, take_all, greatest_from}
use Rattle.judgement.proofs.Counting.{one_rank}
use Rattle.judgement.proofs.counts.greatest_in_row.Goals as goal

pub larger-most-requires : goal.larger-most-requires
larger-most-requires c = c.loop-rank.invariant.1

pub loop-rank-preserved : goal.loop-rank-preserved
loop-rank-preserved c = (one_rank c.args.start c.args.row.now _ _ _ _ c.loop-rank-test.true c.loop-rank.invariant.0 c.larger-most.ensures.larger, c.larger-most.ensures.small)

pub returns : goal.returns
returns c = record {
  greatest = c.loop-rank.invariant.0 ∙ ap (greatest_from c.args.start) (take_all _ c.args.row.now c.loop-rank-test.false);
  small = c.loop-rank.invariant.1;
}
