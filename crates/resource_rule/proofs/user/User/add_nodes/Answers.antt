use Rattle.resource_rule.proofs.Prelude.{◌<◌, ◌≤◌, [], ℕ, List, get_or, length, subst, arith, get_or_read, part_form, AddsArcs, Below, HoldsWhile, OffersWhile}
use Rattle.resource_rule.proofs.Adding.{adds_alike, adds_below_none, adds_more}
use Rattle.resource_rule.proofs.Holding.{nodes_complete, nodes_sound}
use Rattle.resource_rule.proofs.user.User.add_nodes.Goals as goal

pub overflow_cast-node : goal.overflow_cast-node
overflow_cast-node c =
    let most = (part_form c.args.self.now.setting.now.shape.parts c.args.self.now.part c.args.self.now.within c.shape-form.ensures.form.form).most in
    let below : c.loop-node.node < length c.args.held.now = c.loop-node-test.true in
    omega (arith, most, c.requires.held.count)

pub loop-node-init : goal.loop-node-init
loop-node-init c = adds_below_none (λ n. OffersWhile c.args.self.now.setting.now c.args.self.now.part n (get_or c.args.held.now n [])) c.args.sets.now

pub loop-node-preserved : goal.loop-node-preserved
loop-node-preserved c =
    let at = get_or_read c.args.held.now c.loop-node.node c.index-held-node.result c.loop-node-test.true c.index-held-node.is [] in
    adds_more (λ n. OffersWhile c.args.self.now.setting.now c.args.self.now.part n (get_or c.args.held.now n [])) c.loop-node.node c.args.sets.now c.loop-node.sets c.add_node.new.sets c.loop-node.invariant
    (subst (λ (xs : List ℕ). AddsArcs (OffersWhile c.args.self.now.setting.now c.args.self.now.part c.loop-node.node xs) c.loop-node.sets c.add_node.new.sets) at c.in_ok-add_node.ensures)

pub returns : goal.returns
returns c =
    let g = c.args.self.now.setting.now in
    let i = c.args.self.now.part in
    let all : length c.args.held.now ≤ c.loop-node.node = c.loop-node-test.false in
    let end : c.loop-node.node ≤ length c.args.held.now = c.loop-node.auto.node-end in
    adds_alike (Below (λ n. OffersWhile c.args.self.now.setting.now c.args.self.now.part n (get_or c.args.held.now n [])) c.loop-node.node) (HoldsWhile g i) c.args.sets.now c.loop-node.sets c.loop-node.invariant
    (λ k l at. nodes_sound g i c.args.self.now.within c.args.self.now.user c.shape-form.ensures.form c.args.held.now c.requires.held k l (at.0, (let less : at.0 < c.loop-node.node = at.1 in omega arith), at.2))
    (λ k l x. let at = nodes_complete g i c.args.self.now.within c.args.self.now.user c.shape-form.ensures.form c.args.held.now c.requires.held k l x in (at.0, (let less : at.0 < length c.args.held.now = at.1 in omega arith), at.2))
