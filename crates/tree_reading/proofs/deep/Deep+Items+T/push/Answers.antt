use Rattle.std.proofs.Common.{[], ◌∷◌, ◌++◌, ◌∙◌, ap}
use Rattle.tree_reading.proofs.Deepest.{deepest_of_more}
use Rattle.tree_reading.proofs.deep.Deep+Items+T.push.Goals as goal

pub invariant_of-self-2 : goal.invariant_of-self-2
invariant_of-self-2 g c =
    deepest_of_more g.T.Nested.depth c.self.inside.part c.args.item c.self.invariant c.depth.ensures c.greater-depth.ensures
    (c.in_ok-push.ensures.ok ∙ ap (λ item. c.self.inside.part ++ item ∷ []) c.into_inner.ensures)
