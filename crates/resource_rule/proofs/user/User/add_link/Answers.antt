use Rattle.resource_rule.proofs.Prelude.{◌≡◌, ◌∙◌, ◌&&◌, ℕ, List, ap, sym, subst, list_any, IfOk-weaker, has, HoldsWhile, is_acquiring, HaveNodes, is_offered_at}
use Rattle.resource_rule.proofs.Adding.{adds_tested}
use Rattle.resource_rule.proofs.Holding.{link_complete, link_sound}
use Rattle.resource_rule.proofs.Offering.{have_nodes}
use Rattle.resource_rule.proofs.user.User.add_link.Goals as goal

pub pair_offers-requires : goal.pair_offers-requires
pair_offers-requires c =
    let g = c.args.self.now.setting.now in
    subst (HaveNodes g c.args.self.now.part) (sym c.pairs.ensures) (have_nodes g c.args.self.now.part c.args.link c.in_ok-explored.explored.pairs c.shape-form.ensures.form c.args.self.now.within c.in_ok-explored.ensures)

pub returns : goal.returns
returns c =
    let g = c.args.self.now.setting.now in
    let i = c.args.self.now.part in
    let r = c.requires in
    let offers = c.in_ok-offers.offers in
    let held = c.in_ok-held.held in
    let pairs = c.in_ok-explored.explored.pairs in
    let are = λ (e : ℕ). c.in_ok-offers.ensures e ∙ ap (λ (ps : List (ℕ × ℕ)). is_offered_at c.args.self.now.setting.now c.args.self.now.part ps e) c.pairs.ensures in
    IfOk-weaker c.add_held.result _ _ (λ _ is.
    adds_tested (λ k l. (c.args.link ≡ l) × HoldsWhile c.args.self.now.setting.now c.args.self.now.part k l) (λ k l. list_any (is_acquiring c.args.self.now.setting.now k) c.in_ok-offers.offers && has c.in_ok-held.held l) c.args.sets.now c.add_held.new.sets c.add_held.ensures.count is
    (link_sound g i c.args.self.now.within c.args.self.now.user c.args.link r.link r.end pairs c.in_ok-explored.ensures offers held are c.in_ok-held.ensures.members)
    (link_complete g i c.args.self.now.within c.args.self.now.user c.args.link r.link r.end pairs c.in_ok-explored.ensures offers held are c.in_ok-held.ensures.members)) c.add_held.ensures.arcs
