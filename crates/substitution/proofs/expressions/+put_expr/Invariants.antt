use Rattle.substitution.proofs.Prelude.{◌≡◌, ◌+◌, ◌*◌, ◌++◌, drop, map, max, expr_with, gens_with, given_by, part_with, past}
use denote.Param.Weighed as weighed
use Rattle.csp_program.proofs.expressions.Expr.TheLaws.{the_size}
use Rattle.csp_program.proofs.expressions.Gen.TheLaws as generator
use Rattle.substitution.proofs.expressions.+put_expr.Given as goal

-- what is made so far, followed by what is made of the rest, is what is made of all
abbrev pub invariant-put_exprs-loop-expr : goal.invariant-put_exprs-loop-expr
invariant-put_exprs-loop-expr l = l.made ++ map (expr_with (given_by l.values)) (drop l.expr-index l.exprs) ≡ map (expr_with (given_by l.values)) l.exprs

-- the same; and what the rest leaves of the values is what all leave
abbrev pub invariant-replace_gens-loop-generator : goal.invariant-replace_gens-loop-generator
invariant-replace_gens-loop-generator l = (l.made ++ gens_with (given_by l.values) (drop l.generator-index l.gens) ≡ gens_with (given_by l.fn.values) l.gens) × (past (drop l.generator-index l.gens) (given_by l.values) ≡ past l.gens (given_by l.fn.values))

-- what is made so far, followed by what is made of the rest, is what is made of all
abbrev pub invariant-replace_parts-loop-part : goal.invariant-replace_parts-loop-part
invariant-replace_parts-loop-part l = l.made ++ map (part_with (given_by l.values)) (drop l.part-index l.parts) ≡ map (part_with (given_by l.values)) l.parts

-- how deep what is left is, four for each level: what may be kept comes above what stands in it, a list above that, and a form above those
abbrev pub decreases-put_expr : goal.decreases-put_expr
decreases-put_expr l = 4 * goal.size-put_expr l

abbrev pub decreases-replace_gen : goal.decreases-replace_gen
decreases-replace_gen l = 4 * goal.size-replace_gen l

abbrev pub decreases-replace_part : goal.decreases-replace_part
decreases-replace_part l = 4 * goal.size-replace_part l

abbrev pub decreases-replace_boxed_expr : goal.decreases-replace_boxed_expr
decreases-replace_boxed_expr l = 4 * the_size l.expr.now + 1

abbrev pub decreases-put_exprs : goal.decreases-put_exprs
decreases-put_exprs l = 4 * goal.size-put_exprs l + 2

abbrev pub decreases-replace_gens : goal.decreases-replace_gens
decreases-replace_gens l = 4 * goal.size-replace_gens l + 2

abbrev pub decreases-replace_parts : goal.decreases-replace_parts
decreases-replace_parts l = 4 * goal.size-replace_parts l + 2

abbrev pub decreases-replace_two : goal.decreases-replace_two
decreases-replace_two l = 4 * (max (the_size l.a.now) (the_size l.b.now)) + 2

abbrev pub decreases-choice : goal.decreases-choice
decreases-choice l = 4 * (max (the_size l.c.now) (max (the_size l.a.now) (the_size l.b.now))) + 3

abbrev pub decreases-comprehension : goal.decreases-comprehension
decreases-comprehension l = 4 * max (goal.size-comprehension l) (weighed.most (λ x. generator.the_size x) l.gens.now) + 3

abbrev pub decreases-product : goal.decreases-product
decreases-product l = 4 * max (goal.size-product l) (weighed.most (λ x. generator.the_size x) l.gens.now) + 3
