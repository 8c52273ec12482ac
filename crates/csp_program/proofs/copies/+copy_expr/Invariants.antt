use Rattle.std.proofs.Common.{◌≡◌, ◌+◌, ◌*◌, max, take}
use denote.Param.Weighed as weighed
use Rattle.csp_program.proofs.expressions.Expr.TheLaws.{the_size}
use Rattle.csp_program.proofs.expressions.Gen.TheLaws as generator
use Rattle.csp_program.proofs.copies.+copy_expr.Given as goal

-- those so far are copied
abbrev pub invariant-copy_exprs-loop-expr : goal.invariant-copy_exprs-loop-expr
invariant-copy_exprs-loop-expr l = l.copies ≡ take l.expr-index l.exprs

abbrev pub invariant-copy_gens-loop-generator : goal.invariant-copy_gens-loop-generator
invariant-copy_gens-loop-generator l = l.copies ≡ take l.generator-index l.gens

abbrev pub invariant-copy_parts-loop-part : goal.invariant-copy_parts-loop-part
invariant-copy_parts-loop-part l = l.copies ≡ take l.part-index l.parts

-- how deep what is left is, three for each level: a list or an expression on the heap comes above what stands in it, and a form above those
abbrev pub decreases-copy_expr : goal.decreases-copy_expr
decreases-copy_expr l = 3 * goal.size-copy_expr l

abbrev pub decreases-copy_gen : goal.decreases-copy_gen
decreases-copy_gen l = 3 * goal.size-copy_gen l

abbrev pub decreases-copy_part : goal.decreases-copy_part
decreases-copy_part l = 3 * goal.size-copy_part l

abbrev pub decreases-copy_boxed_expr : goal.decreases-copy_boxed_expr
decreases-copy_boxed_expr l = 3 * goal.size-copy_boxed_expr l + 1

abbrev pub decreases-copy_exprs : goal.decreases-copy_exprs
decreases-copy_exprs l = 3 * goal.size-copy_exprs l + 1

abbrev pub decreases-copy_gens : goal.decreases-copy_gens
decreases-copy_gens l = 3 * goal.size-copy_gens l + 1

abbrev pub decreases-copy_parts : goal.decreases-copy_parts
decreases-copy_parts l = 3 * goal.size-copy_parts l + 1

abbrev pub decreases-binary : goal.decreases-binary
decreases-binary l = 3 * (max (the_size l.a.now) (the_size l.b.now)) + 2

abbrev pub decreases-choice : goal.decreases-choice
decreases-choice l = 3 * (max (the_size l.c.now) (max (the_size l.a.now) (the_size l.b.now))) + 2

abbrev pub decreases-range : goal.decreases-range
decreases-range l = 3 * (max (the_size l.a.now) (the_size l.b.now)) + 2

abbrev pub decreases-set_operation : goal.decreases-set_operation
decreases-set_operation l = 3 * (max (the_size l.a.now) (the_size l.b.now)) + 2

abbrev pub decreases-comprehension : goal.decreases-comprehension
decreases-comprehension l = 3 * max (goal.size-comprehension l) (weighed.most (λ x. generator.the_size x) l.gens.now) + 2

abbrev pub decreases-product : goal.decreases-product
decreases-product l = 3 * max (goal.size-product l) (weighed.most (λ x. generator.the_size x) l.gens.now) + 2
