use Rattle.resource_rule.proofs.Prelude.{◌≡◌, ◌<◌, ◌∙◌, ℕ, List, [], ap, get_or, length, replicate, subst, true, arith, get_or_read, has, Link, Shape, AddsArcs, LeadsToHeld}
use Rattle.resource_rule.proofs.Adding.{adds_more}
use Rattle.resource_rule.proofs.Holding.{row_adds}
use Rattle.resource_rule.proofs.link_sets.resource_arcs.Goals as goal

pub add_row-requires-clause-within : goal.add_row-requires-clause-within
add_row-requires-clause-within c l listed =
    let links : length c.links-links.result.now ≡ length c.args.setting.now.shape.links = ap (length {A = Link}) c.links-links.ensures.value ∙ ap (λ (s : Shape). length s.links) c.shape.ensures.value in
    let below : c.loop-link.link < length c.links-links.result.now = c.loop-link-test.true in
    let inside : c.loop-link.link < length c.args.sets.now = omega (arith, c.requires.count) in
    let at = get_or_read c.args.sets.now c.loop-link.link c.index-sets-link.result inside c.index-sets-link.is [] in
    c.requires.within c.loop-link.link l (subst (λ (xs : List ℕ). has xs l ≡ true) at listed)

pub loop-link-preserved : goal.loop-link-preserved
loop-link-preserved c =
    let g = c.args.setting.now in
    let links : length c.links-links.result.now ≡ length c.args.setting.now.shape.links = ap (length {A = Link}) c.links-links.ensures.value ∙ ap (λ (s : Shape). length s.links) c.shape.ensures.value in
    let below : c.loop-link.link < length c.links-links.result.now = c.loop-link-test.true in
    let inside : c.loop-link.link < length c.args.sets.now = omega (arith, c.requires.count) in
    let at = get_or_read c.args.sets.now c.loop-link.link c.index-sets-link.result inside c.index-sets-link.is [] in
    let none = replicate {A = List ℕ} (length c.args.setting.now.shape.parts) [] in
    adds_more (λ k. LeadsToHeld c.args.setting.now k (get_or c.args.sets.now k [])) c.loop-link.link none c.loop-link.rows c.add_row.new.rows c.loop-link.invariant
    (subst (λ (xs : List ℕ). AddsArcs (LeadsToHeld c.args.setting.now c.loop-link.link xs) c.loop-link.rows c.add_row.new.rows) at (row_adds g c.loop-link.link c.index-sets-link.result c.loop-link.rows c.add_row.new.rows c.add_row.ensures.count c.in_ok-add_row.ensures.arcs))
