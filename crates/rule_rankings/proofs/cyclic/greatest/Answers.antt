use Rattle.rule_rankings.proofs.Prelude.{◌∙◌, ℕ, get_or, max, ap, slice_index, has_at}
use Rattle.rule_rankings.proofs.CyclicRanking.{greatest_more, is_greatest}
use Rattle.rule_rankings.proofs.cyclic.greatest.Goals as goal

pub of-requires : goal.of-requires
of-requires c = c.requires (get_or c.args.links.now c.loop-link.link-index 0) (has_at c.args.links.now c.loop-link.link-index c.loop-link-test.true)

pub loop-link-preserved : goal.loop-link-preserved
loop-link-preserved c = greatest_more (slice_index c.args.numbers.now) c.args.links.now c.loop-link.link-index c.loop-link.top c.larger-top.result c.loop-link.invariant (c.larger-top.ensures ∙ ap (λ (n : ℕ). max n c.loop-link.top) c.of.ensures)

pub returns : goal.returns
returns c = is_greatest (slice_index c.args.numbers.now) c.args.links.now c.loop-link.link-index c.loop-link.top c.loop-link-test.false c.loop-link.auto.link-index-end c.loop-link.invariant
