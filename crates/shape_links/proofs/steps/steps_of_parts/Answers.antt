use Rattle.shape_links.proofs.Prelude.{◌≡◌, ◌≤◌, ℕ, List, length, ap, subst, arith, Part, HaveEnough, AreSteps}
use Rattle.shape_links.proofs.Watching.{part_has_form, steps_more}
use Rattle.shape_links.proofs.steps.steps_of_parts.Goals as goal

pub steps_of-requires : goal.steps_of-requires
steps_of-requires c = part_has_form c.args.shape.now c.loop-part.part-index c.parts-part-items.result.now c.part-item.result c.requires c.parts-part-items.ensures.value c.loop-part-test.true c.part-item.is

pub loop-part-preserved : goal.loop-part-preserved
loop-part-preserved c =
    let enough = subst (λ (V : List ℕ). HaveEnough V c.part-item.result.table c.in_ok-rows.rows) c.vocabulary.ensures c.in_ok-rows.ensures in
    steps_more c.args.shape.now c.loop-part.part-index c.parts-part-items.result.now c.part-item.result c.in_ok-rows.rows c.loop-part.steps.items c.push.new.self.items c.parts-part-items.ensures.value c.loop-part-test.true c.part-item.is enough c.in_ok-push.ensures.items c.loop-part.invariant

pub returns : goal.returns
returns c =
    let count : length c.loop-part.steps.items ≡ c.loop-part.part-index = c.loop-part.invariant.count in
    let all : length c.parts-part-items.result.now ≤ c.loop-part.part-index = c.loop-part-test.false in
    let end : c.loop-part.part-index ≤ length c.parts-part-items.result.now = c.loop-part.auto.part-index-end in
    let many : length c.parts-part-items.result.now ≡ length c.args.shape.now.parts = ap (length {A = Part}) c.parts-part-items.ensures.value in
    subst (λ n. AreSteps c.args.shape.now n c.loop-part.steps.items) (let e : c.loop-part.part-index ≡ length c.args.shape.now.parts = omega arith in e) c.loop-part.invariant
