use Rattle.network_stages.proofs.Prelude.{◌<◌, List, length, subst, HasForm, Part, IsReached, part_form}
use Rattle.network_stages.proofs.Reading.{part_read}
use Rattle.network_stages.proofs.Stopping.{parts_more}
use Rattle.network_stages.proofs.busy.busy.Goals as goal

pub run_to_node-requires-clause-form : goal.run_to_node-requires-clause-form
run_to_node-requires-clause-form c =
    let within : c.loop-place.place < length c.args.shape.now.parts = subst (λ (ps : List Part). c.loop-place.place < length ps) c.parts-part-items.ensures.value c.loop-place-test.true in
    subst HasForm (part_read c.args.shape.now.parts c.parts-part-items.result.now c.loop-place.place c.part-item.result c.parts-part-items.ensures.value c.loop-place-test.true c.part-item.is)
    (part_form c.args.shape.now.parts c.loop-place.place within c.requires.form)

pub run_to_node-requires-clause-reached : goal.run_to_node-requires-clause-reached
run_to_node-requires-clause-reached c =
    let within : c.loop-place.place < length c.args.shape.now.parts = subst (λ (ps : List Part). c.loop-place.place < length ps) c.parts-part-items.ensures.value c.loop-place-test.true in
    let read = part_read c.args.shape.now.parts c.parts-part-items.result.now c.loop-place.place c.part-item.result c.parts-part-items.ensures.value c.loop-place-test.true c.part-item.is in
    subst (λ (p : Part). c.in-Some.node < length p.table → IsReached p.table c.in-Some.node) read (c.requires.reached c.loop-place.place c.in-Some.node within) c.in-Some.ensures.within

pub loop-place-preserved : goal.loop-place-preserved
loop-place-preserved c =
    parts_more c.args.shape.now.parts c.loop-place.place c.part-item.result
    (part_read c.args.shape.now.parts c.parts-part-items.result.now c.loop-place.place c.part-item.result c.parts-part-items.ensures.value c.loop-place-test.true c.part-item.is)
    c.in_default.ensures.none c.loop-place.invariant
