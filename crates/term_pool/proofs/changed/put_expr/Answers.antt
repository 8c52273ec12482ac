use Rattle.csp_program.specs.declared.expressions.Expr.TheVariants as expr
use Rattle.term_pool.proofs.changed.put_expr.Goals as goal

pub returns-clause-made : goal.returns-clause-made
returns-clause-made c = c.put_values.ensures.made (expr.Const 0)
