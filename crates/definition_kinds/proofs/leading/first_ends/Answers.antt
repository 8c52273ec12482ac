use Rattle.definition_kinds.proofs.Prelude.{List, ap, ◌∙◌, ◌∷◌, ◌++◌, [], take, End, rows}
use Rattle.definition_kinds.proofs.FoundLaws.{firsts_step}
use Rattle.definition_kinds.proofs.leading.first_ends.Goals as goal

pub loop-ends-preserved : goal.loop-ends-preserved
loop-ends-preserved c =
    firsts_step c.args.all.now c.loop-ends.ends-index c.ends-item.result c.loop-ends.firsts.items c.push_first.new.firsts.items c.loop-ends-test.true c.ends-item.is
    (c.in_ok-push_first.ensures ∙ ap (λ (es : List End). rows c.loop-ends.firsts.items ++ take 1 es ∷ []) c.as_slice.ensures.value) c.loop-ends.invariant
