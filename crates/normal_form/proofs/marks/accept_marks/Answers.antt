use Rattle.normal_form.proofs.Prelude.{[], ◌∷◌, ◌++◌, ◌∙◌, refl, arith, numbered_step, slice_get_within}
use Rattle.normal_form.proofs.Marking.{same_sets, same_itself, accept_at, all_marked, item_read}
use Rattle.normal_form.proofs.marks.accept_marks.Goals as goal

pub overflow_cast-mark : goal.overflow_cast-mark
overflow_cast-mark c =
    let key = c.in_ok-key.ensures ∙ c.accept.ensures ∙ item_read c.args.nodes.now c.loop-node.node-index c.node-item.result c.loop-node-test.true c.node-item.is in
    let next = numbered_step same_sets same_itself (accept_at c.args.nodes.now) _ _ _ _ (c.loop-node.marks.items ++ c.in_ok-mark.mark ∷ []) _ _ c.loop-node.invariant key c.in_ok-mark.ensures.first c.in_ok-mark.ensures.list refl in
    omega (arith, slice_get_within c.number.new.self c.in_ok-mark.mark c.in_ok-key.key c.in_ok-mark.ensures.place, next.few, c.loop-node-test.true, c.requires)

pub loop-node-preserved : goal.loop-node-preserved
loop-node-preserved c =
    let key = c.in_ok-key.ensures ∙ c.accept.ensures ∙ item_read c.args.nodes.now c.loop-node.node-index c.node-item.result c.loop-node-test.true c.node-item.is in
    numbered_step same_sets same_itself (accept_at c.args.nodes.now) _ _ _ _ _ _ _ c.loop-node.invariant key c.in_ok-mark.ensures.first c.in_ok-mark.ensures.list c.in_ok-push.ensures.items

pub returns : goal.returns
returns c = all_marked c.args.nodes.now c.loop-node.node-index c.loop-node.numbering c.loop-node.marks.items (omega arith) c.loop-node.invariant
