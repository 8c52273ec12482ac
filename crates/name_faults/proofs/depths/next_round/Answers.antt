use Rattle.name_faults.proofs.Prelude.{◌∷◌, ◌++◌, [], ◌∙◌, ap, min, slice_index, sym, map_more, Body, deepest_of}
use Rattle.name_faults.proofs.depths.next_round.Goals as goal

pub loop-body-preserved : goal.loop-body-preserved
loop-body-preserved c =
    let depth = λ (b : Body). min (deepest_of (λ d. slice_index c.args.depths.now d) b) c.args.limit in
    c.in_ok-push.ensures.items
    ∙ (λ j. c.loop-body.invariant j ++ (c.depth_of.ensures ∙ ap depth c.body-item.is) j ∷ [])
    ∙ sym (map_more depth c.args.bodies.now c.loop-body.body-index c.body-item.result c.loop-body-test.true)
