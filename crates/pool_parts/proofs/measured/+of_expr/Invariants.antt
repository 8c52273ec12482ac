use Rattle.pool_parts.proofs.Prelude.{◌≡◌, ℕ, ◌+◌, ◌*◌, ◌≤◌, max, min, map, drop, expr_depth, gen_depth, part_depth, any_of, expr_free, gen_binding, nowhere, part_free, under, expr_size, gen_size, part_size, capped, IsLow, greatest, total}
use Rattle.csp_program.proofs.expressions.Expr.TheLaws.{the_size}
use denote.Param.Weighed as weighed
use Rattle.csp_program.proofs.expressions.Gen.TheLaws as generator
use Rattle.pool_parts.proofs.measured.+of_expr.Given as goal

-- what is measured so far, together with the rest, is all
abbrev pub invariant-of_exprs-loop-expr : goal.invariant-of_exprs-loop-expr
invariant-of_exprs-loop-expr l = record {
  small : l.all.size ≤ 4294967295;
  depth : max l.all.depth (capped (greatest (map expr_depth (drop l.expr-index l.exprs)))) ≡ capped (greatest (map expr_depth l.exprs));
  size : capped (l.all.size + total (map expr_size (drop l.expr-index l.exprs))) ≡ capped (total (map expr_size l.exprs));
  low : (n : ℕ) → IsLow n (any_of (map expr_free (drop l.expr-index l.exprs))) → IsLow (min l.all.least n) (any_of (map expr_free l.exprs));
}

-- what is measured so far, together with the rest, is all
abbrev pub invariant-of_gens-loop-generator : goal.invariant-of_gens-loop-generator
invariant-of_gens-loop-generator l = record {
  small : l.all.size ≤ 4294967295;
  depth : max l.all.depth (capped (greatest (map gen_depth (drop l.generator-index l.gens)))) ≡ capped (greatest (map gen_depth l.gens));
  size : capped (l.all.size + total (map gen_size (drop l.generator-index l.gens))) ≡ capped (total (map gen_size l.gens));
  low : (n : ℕ) → IsLow n (under (map gen_binding (drop l.generator-index l.gens)) nowhere) → IsLow (min l.all.least n) (under (map gen_binding l.gens) nowhere);
}

-- what is measured so far, together with the rest, is all
abbrev pub invariant-of_parts-loop-part : goal.invariant-of_parts-loop-part
invariant-of_parts-loop-part l = record {
  small : l.all.size ≤ 4294967295;
  depth : max l.all.depth (capped (greatest (map part_depth (drop l.part-index l.parts)))) ≡ capped (greatest (map part_depth l.parts));
  size : capped (l.all.size + total (map part_size (drop l.part-index l.parts))) ≡ capped (total (map part_size l.parts));
  low : (n : ℕ) → IsLow n (any_of (map part_free (drop l.part-index l.parts))) → IsLow (min l.all.least n) (any_of (map part_free l.parts));
}

-- how deep what is left is, four for each level: the parts of an expression come below it, a list above its items, and two of them above both
abbrev pub decreases-of_expr : goal.decreases-of_expr
decreases-of_expr l = 4 * goal.size-of_expr l + 1

abbrev pub decreases-of_parts_of_expr : goal.decreases-of_parts_of_expr
decreases-of_parts_of_expr l = 4 * goal.size-of_parts_of_expr l

abbrev pub decreases-of_both : goal.decreases-of_both
decreases-of_both l = 4 * max (the_size l.a.now) (the_size l.b.now) + 3

abbrev pub decreases-of_comprehension : goal.decreases-of_comprehension
decreases-of_comprehension l = 4 * max (goal.size-of_comprehension l) (weighed.most (λ x. generator.the_size x) l.gens.now) + 3

abbrev pub decreases-of_production : goal.decreases-of_production
decreases-of_production l = 4 * max (goal.size-of_production l) (weighed.most (λ x. generator.the_size x) l.gens.now) + 3

abbrev pub decreases-of_exprs : goal.decreases-of_exprs
decreases-of_exprs l = 4 * goal.size-of_exprs l + 2

abbrev pub decreases-of_gens : goal.decreases-of_gens
decreases-of_gens l = 4 * goal.size-of_gens l + 2

abbrev pub decreases-of_parts : goal.decreases-of_parts
decreases-of_parts l = 4 * goal.size-of_parts l + 2

abbrev pub decreases-of_gen : goal.decreases-of_gen
decreases-of_gen l = 4 * goal.size-of_gen l

abbrev pub decreases-of_part : goal.decreases-of_part
decreases-of_part l = 4 * goal.size-of_part l
