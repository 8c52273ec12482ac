use Rattle.csp_values.proofs.Prelude.{[], ap, sym, ◌∙◌, env_in, worth}
use Rattle.csp_values.proofs.Arms.{same}
use Rattle.csp_values.proofs.Equations.{whole_value}
use Rattle.csp_values.proofs.whole.eval_fitting.Goals as goal

pub returns : goal.returns
returns c =
    same _ _ _
    (whole_value c.args.content.now c.args.expr.now c.whole_scope.result.uses c.whole_scope.ensures.uses ∙
    (ap (λ p. worth p c.whole_scope.result.uses [] c.args.expr.now) (sym c.whole_scope.ensures.content) ∙
    ap (λ env. worth c.whole_scope.result.content.now c.whole_scope.result.uses env c.args.expr.now) (sym c.names_under.ensures.names ∙ ap env_in (sym c.whole_scope.ensures.names))))
    c.eval_expr.ensures
