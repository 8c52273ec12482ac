-- Names are read in one of a list after another.
use Rattle.pool_parts.proofs.Prelude.{List, map, refl, subst, arith, common_steps, any_of, expr_free, gen_binding, nowhere, part_free, under, EventPart, Expr, Gen, IsLow}
use Rattle.pool_parts.proofs.LowLemmas as low
use Rattle.pool_parts.proofs.measured.+of_expr.Goals as goal

pub of_exprs-loop-expr-init : goal.of_exprs-loop-expr-init
of_exprs-loop-expr-init t c = record { small = grind (arith, common_steps); depth = grind (arith, common_steps); size = grind (arith, common_steps); low = low.low_start (low.each_free expr_free) c.args.exprs.now c.leaf-all.result.least }

pub of_exprs-loop-expr-preserved : goal.of_exprs-loop-expr-preserved
of_exprs-loop-expr-preserved t c = record {
  small = grind (arith, common_steps);
  depth = grind (arith, common_steps);
  size = grind (arith, common_steps);
  low = low.low_step (low.each_free expr_free) c.args.exprs.now expr_free (low.each_split expr_free) c.loop-expr.expr-index c.expr-item.result c.loop-expr.all.least c.of_expr.result.least c.join-all.result.least
      c.loop-expr-test.true c.expr-item.is c.loop-expr.invariant.low c.join-all.ensures.least c.of_expr.ensures.low;
}

pub of_exprs-returns-clause-low : goal.of_exprs-returns-clause-low
of_exprs-returns-clause-low t c = low.low_end (low.each_free expr_free) c.args.exprs.now refl c.loop-expr.expr-index c.loop-expr.all.least c.loop-expr-test.false c.loop-expr.invariant.low

pub of_gens-loop-generator-init : goal.of_gens-loop-generator-init
of_gens-loop-generator-init t c = record { small = grind (arith, common_steps); depth = grind (arith, common_steps); size = grind (arith, common_steps); low = low.low_start low.gens_free c.args.gens.now c.leaf-all.result.least }

pub of_gens-loop-generator-preserved : goal.of_gens-loop-generator-preserved
of_gens-loop-generator-preserved t c = record {
  small = grind (arith, common_steps);
  depth = grind (arith, common_steps);
  size = grind (arith, common_steps);
  low = low.low_step low.gens_free c.args.gens.now low.gen_free low.gens_split c.loop-generator.generator-index c.generator-item.result c.loop-generator.all.least c.of_gen.result.least c.join-all.result.least
      c.loop-generator-test.true c.generator-item.is c.loop-generator.invariant.low c.join-all.ensures.least c.of_gen.ensures.low;
}

pub of_gens-returns-clause-low : goal.of_gens-returns-clause-low
of_gens-returns-clause-low t c = low.low_end low.gens_free c.args.gens.now refl c.loop-generator.generator-index c.loop-generator.all.least c.loop-generator-test.false c.loop-generator.invariant.low

pub of_parts-loop-part-init : goal.of_parts-loop-part-init
of_parts-loop-part-init t c = record { small = grind (arith, common_steps); depth = grind (arith, common_steps); size = grind (arith, common_steps); low = low.low_start (low.each_free part_free) c.args.parts.now c.leaf-all.result.least }

pub of_parts-loop-part-preserved : goal.of_parts-loop-part-preserved
of_parts-loop-part-preserved t c = record {
  small = grind (arith, common_steps);
  depth = grind (arith, common_steps);
  size = grind (arith, common_steps);
  low = low.low_step (low.each_free part_free) c.args.parts.now part_free (low.each_split part_free) c.loop-part.part-index c.part-item.result c.loop-part.all.least c.of_part.result.least c.join-all.result.least
      c.loop-part-test.true c.part-item.is c.loop-part.invariant.low c.join-all.ensures.least c.of_part.ensures.low;
}

pub of_parts-returns-clause-low : goal.of_parts-returns-clause-low
of_parts-returns-clause-low t c = low.low_end (low.each_free part_free) c.args.parts.now refl c.loop-part.part-index c.loop-part.all.least c.loop-part-test.false c.loop-part.invariant.low

pub of_comprehension-returns-clause-low : goal.of_comprehension-returns-clause-low
of_comprehension-returns-clause-low t c =
    let items = subst (λ (es : List Expr). IsLow c.of_exprs.result.least (any_of (map expr_free es))) c.as_slice.ensures c.of_exprs.ensures.low in
    let gens = subst (λ (gs : List Gen). IsLow c.of_gens.result.least (under (map gen_binding gs) nowhere)) c.as_slice-2.ensures c.of_gens.ensures.low in
    low.low_under c.join.result.least c.of_exprs.result.least c.of_gens.result.least (any_of (map expr_free c.args.items.now)) (map gen_binding c.args.gens.now) c.join.ensures.least items gens

pub of_production-returns-clause-low : goal.of_production-returns-clause-low
of_production-returns-clause-low t c =
    let parts = subst (λ (ps : List EventPart). IsLow c.of_parts.result.least (any_of (map part_free ps))) c.as_slice.ensures c.of_parts.ensures.low in
    let gens = subst (λ (gs : List Gen). IsLow c.of_gens.result.least (under (map gen_binding gs) nowhere)) c.as_slice-2.ensures c.of_gens.ensures.low in
    low.low_under c.join.result.least c.of_parts.result.least c.of_gens.result.least (any_of (map part_free c.args.parts.now)) (map gen_binding c.args.gens.now) c.join.ensures.least parts gens
