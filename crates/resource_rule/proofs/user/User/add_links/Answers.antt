use Rattle.resource_rule.proofs.Prelude.{◌≡◌, ◌<◌, ◌≤◌, ℕ, List, get_or, length, ap, subst, arith, AddsArcs, Below, HoldsWhile, ends_of, end_here}
use Rattle.resource_rule.proofs.Adding.{adds_alike, adds_below_none, adds_more}
use Rattle.resource_rule.proofs.Holding.{place_of_end}
use Rattle.resource_rule.proofs.user.User.add_links.Goals as goal

pub add_link-requires-clause-link : goal.add_link-requires-clause-link
add_link-requires-clause-link c = (end_here c.args.self.now.setting.now.shape c.args.self.now.part c.links-link-items.result.now c.loop-link.link-index c.links-link-items.ensures c.loop-link-test.true).0

pub add_link-requires-clause-end : goal.add_link-requires-clause-end
add_link-requires-clause-end c = (end_here c.args.self.now.setting.now.shape c.args.self.now.part c.links-link-items.result.now c.loop-link.link-index c.links-link-items.ensures c.loop-link-test.true).1

pub loop-link-init : goal.loop-link-init
loop-link-init c = adds_below_none (λ n k l. (get_or (ends_of c.args.self.now.setting.now.shape c.args.self.now.part) n 0 ≡ l) × HoldsWhile c.args.self.now.setting.now c.args.self.now.part k l) c.args.sets.now

pub loop-link-preserved : goal.loop-link-preserved
loop-link-preserved c =
    adds_more (λ n k l. (get_or (ends_of c.args.self.now.setting.now.shape c.args.self.now.part) n 0 ≡ l) × HoldsWhile c.args.self.now.setting.now c.args.self.now.part k l) c.loop-link.link-index c.args.sets.now c.loop-link.sets c.add_link.new.sets c.loop-link.invariant
    (subst (λ (xs : List ℕ). AddsArcs (λ k l. (get_or xs c.loop-link.link-index 0 ≡ l) × HoldsWhile c.args.self.now.setting.now c.args.self.now.part k l) c.loop-link.sets c.add_link.new.sets) c.links-link-items.ensures c.in_ok-add_link.ensures)

pub returns : goal.returns
returns c =
    let g = c.args.self.now.setting.now in
    let i = c.args.self.now.part in
    let items : length c.links-link-items.result.now ≡ length (ends_of c.args.self.now.setting.now.shape c.args.self.now.part) = ap (length {A = ℕ}) c.links-link-items.ensures in
    let all : length c.links-link-items.result.now ≤ c.loop-link.link-index = c.loop-link-test.false in
    adds_alike (Below (λ n k l. (get_or (ends_of c.args.self.now.setting.now.shape c.args.self.now.part) n 0 ≡ l) × HoldsWhile c.args.self.now.setting.now c.args.self.now.part k l) c.loop-link.link-index) (HoldsWhile g i) c.args.sets.now c.loop-link.sets c.loop-link.invariant
    (λ k l at. at.2.1)
    (λ k l x. let at = place_of_end g i k l x in (at.0, (let less : at.0 < length (ends_of c.args.self.now.setting.now.shape c.args.self.now.part) = at.1 in omega arith), (at.2, x)))
