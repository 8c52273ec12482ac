use Rattle.substitution.proofs.Prelude.{map, refl, arith, rules, expr_with, given_by, pushed}
use Rattle.substitution.proofs.Forms.{expr_with-Call, expr_with-Event, expr_with-Display, expr_with-Comp, expr_with-Product}
use Rattle.substitution.proofs.Loops.{next_made}
use Rattle.substitution.proofs.expressions.+put_expr.Goals as goal

pub put_expr-returns-in-Call : goal.put_expr-returns-in-Call
put_expr-returns-in-Call t c = rw (c.in-Call.is, expr_with-Call) (search rules)

pub put_expr-returns-in-Event : goal.put_expr-returns-in-Event
put_expr-returns-in-Event t c = rw (c.in-Event.is, expr_with-Event) (search rules)

pub put_expr-returns-in-Display : goal.put_expr-returns-in-Display
put_expr-returns-in-Display t c = rw (c.in-Display.is, expr_with-Display) (search rules)

pub put_expr-returns-in-Comp : goal.put_expr-returns-in-Comp
put_expr-returns-in-Comp t c = rw (c.in-Comp.is, expr_with-Comp) c.comprehension.ensures

pub put_expr-returns-in-Product : goal.put_expr-returns-in-Product
put_expr-returns-in-Product t c = rw (c.in-Product.is, expr_with-Product) c.product.ensures

pub put_exprs-loop-expr-preserved : goal.put_exprs-loop-expr-preserved
put_exprs-loop-expr-preserved t c =
    next_made (map (expr_with (given_by c.args.values.now))) c.args.exprs.now c.loop-expr.expr-index c.expr-item.result _ _ c.loop-expr.made c.push_made.new.self
    (map (expr_with (given_by c.args.values.now)) c.args.exprs.now) (omega arith) c.expr-item.is refl c.loop-expr.invariant
    (pushed _ _ _ _ c.put_expr.ensures c.in_ok-push_made.ensures.ok)
