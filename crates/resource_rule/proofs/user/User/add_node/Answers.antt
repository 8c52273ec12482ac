use Rattle.resource_rule.proofs.Prelude.{◌&&◌, List, ℕ, ap, sym, ◌∙◌, list_any, IfOk-weaker, false≢true, has, OffersWhile, is_acquiring}
use Rattle.resource_rule.proofs.Adding.{adds_none, adds_tested}
use Rattle.resource_rule.proofs.Holding.{node_complete, node_sound}
use Rattle.resource_rule.proofs.user.User.add_node.Goals as goal

pub returns-then-is_empty : goal.returns-then-is_empty
returns-then-is_empty c =
    let none = c.is_empty.ensures.0 c.if-is_empty.true in
    adds_none (OffersWhile c.args.self.now.setting.now c.args.self.now.part c.args.node c.args.held.now) c.args.sets.now (λ k l x. false≢true (ap (λ (xs : List ℕ). has xs l) (sym none) ∙ x.holding))

pub returns : goal.returns
returns c =
    let g = c.args.self.now.setting.now in
    let i = c.args.self.now.part in
    let n = c.args.node in
    let offers = c.in_ok-offers.offers in
    let held = c.args.held.now in
    IfOk-weaker c.add_held.result _ _ (λ _ is.
    adds_tested (OffersWhile g i n held) (λ k l. list_any (is_acquiring c.args.self.now.setting.now k) c.in_ok-offers.offers && has c.args.held.now l) c.args.sets.now c.add_held.new.sets c.add_held.ensures.count is
    (node_sound g i n offers held c.in_ok-offers.ensures) (node_complete g i n offers held c.in_ok-offers.ensures)) c.add_held.ensures.arcs
