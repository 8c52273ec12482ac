use Rattle.typed_trees.proofs.OtherForms.{expr-other}
use Rattle.typed_trees.proofs.walk.Walk.+typed_expr.Goals as goal

pub expression-returns-in_default-clause-made : goal.expression-returns-in_default-clause-made
expression-returns-in_default-clause-made t c = rw (expr-other c.args.self.now c.args.tree.now (record {
  not_num = c.in_default.not-Num;
  not_true = c.in_default.not-True;
  not_false = c.in_default.not-False;
  not_name = c.in_default.not-Name;
  not_call = c.in_default.not-Call;
  not_dot = c.in_default.not-Dot;
  not_neg = c.in_default.not-Neg;
  not_not = c.in_default.not-Not;
  not_binary = c.in_default.not-Binary;
  not_if = c.in_default.not-If;
  not_display = c.in_default.not-Display;
  not_range = c.in_default.not-Range;
  not_comp = c.in_default.not-Comp;
  not_product = c.in_default.not-Product;
  not_set_op = c.in_default.not-SetOp;
}))
