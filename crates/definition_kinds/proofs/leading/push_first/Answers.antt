use Rattle.definition_kinds.proofs.Prelude.{[], ◌∷◌, ◌++◌, ap, ◌∙◌, rows}
use Rattle.definition_kinds.proofs.FoundLaws.{rows-snoc}
use Rattle.definition_kinds.proofs.leading.push_first.Goals as goal

pub returns : goal.returns
returns c =
    ap rows c.in_ok-push.ensures.items ∙ rows-snoc c.args.firsts.now.items c.in_ok-first.first ∙ ap (λ ends. rows c.args.firsts.now.items ++ ends ∷ []) c.in_ok-first.ensures
