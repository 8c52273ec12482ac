-- One place more, and all of them.
use Rattle.term_pool.proofs.Prelude.{List, ap, ◌∙◌, arith, subst, common_steps, get_or_default, take_all, ProcId, measure_at, IsLeastAt}
use Rattle.term_pool.proofs.NodeMeasures.{least_more}
use Rattle.term_pool.proofs.node_measures.at_places.Goals as goal

pub loop-id-preserved : goal.loop-id-preserved
loop-id-preserved c = record {
  small = grind (arith, common_steps);
  below = grind (arith, common_steps);
  depth = grind (arith, common_steps);
  least = least_more c.args.measures.now c.loop-id.all.least c.join-all.result.least c.args.ids.now c.loop-id.id-index (record { 0 = 0 }) c.at_place.result
      c.loop-id-test.true c.join-all.ensures.least (c.at_place.ensures ∙ ap (measure_at c.args.measures.now) (get_or_default c.args.ids.now c.loop-id.id-index _ (record { 0 = 0 }) c.loop-id-test.true)) c.loop-id.invariant.least;
  size = grind (arith, common_steps);
}

pub returns-clause-least : goal.returns-clause-least
returns-clause-least c =
    subst (λ (ids : List ProcId). IsLeastAt c.args.measures.now c.loop-id.all.least ids) (take_all c.loop-id.id-index c.args.ids.now c.loop-id-test.false) c.loop-id.invariant.least
