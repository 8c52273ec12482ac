use Rattle.resource_rule.proofs.Prelude.{◌∙◌, ℕ, List, ap, IfOk-weaker, has, IfSome_then}
use Rattle.resource_rule.proofs.InTurn.{held_where_odd}
use Rattle.resource_rule.proofs.user.User.held_links.Goals as goal

pub returns : goal.returns
returns c =
    let component = c.component-component.result in
    IfOk-weaker c.odd_links.result _ _ (λ odd are. IfSome_then odd are (λ sets is. held_where_odd c.args.self.now.setting.now c.args.self.now.part component c.in_ok-links.links sets.items c.component-component.ensures.shape c.component-component.ensures.number (λ l. c.in_ok-links.ensures l ∙ ap (λ (xs : List ℕ). has xs l) c.links.ensures) is)) c.odd_links.ensures
