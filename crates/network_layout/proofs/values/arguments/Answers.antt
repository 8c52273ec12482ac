use Rattle.network_layout.proofs.Prelude.{ap, length, subst, ◌∙◌, Env, worths, names_of, Gives}
use Rattle.network_layout.proofs.Names.{arguments_worth}
use Rattle.network_layout.proofs.values.arguments.Goals as goal

pub returns : goal.returns
returns c =
    c.value_or_stop.ensures _ (subst (Gives c.eval_all_with.result)
    (ap (λ (env : Env). worths c.args.scope.now.program.now (length c.args.scope.now.program.now.defs) env c.args.exprs.now) c.names.ensures ∙
    arguments_worth c.args.scope.now.program.now (length c.args.scope.now.program.now.defs) (names_of c.args.scope.now) c.args.exprs.now) c.eval_all_with.ensures)
