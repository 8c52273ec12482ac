use Rattle.script_contents.proofs.Prelude.{◌≡◌, ◌++◌, IfOk, subst, ◌∙◌, ap, parameters}
use Rattle.script_contents.proofs.BodyLaws.{body_is}
use Rattle.script_contents.proofs.definitions.body_under.Goals as goal

pub returns : goal.returns
returns c =
    subst (λ z. IfOk c.body.result (λ body. body ≡ z))
    (body_is c.args.meanings.now c.args.d c.args.params.now c.args.tree.now c.new-walk.result c.kind_at.result c.bind_all.new.scope
    (c.in_ok-bind_all.ensures ∙ ap (λ z. z ++ parameters 0 c.args.params.now) c.new-scope.ensures) c.new-walk.ensures c.kind_at.ensures.class c.kind_at.ensures.network)
    c.body.ensures
