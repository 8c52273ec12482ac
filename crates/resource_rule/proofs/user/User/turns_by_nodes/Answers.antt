use Rattle.resource_rule.proofs.Prelude.{◌≡◌, ◌<◌, ◌∙◌, ℕ, List, [], ap, get_or, length, subst, true, IfSome, is_possible, node_of, AreHeld, IsInTurn}
use Rattle.resource_rule.proofs.InTurn.{turns_at_nodes}
use Rattle.resource_rule.proofs.user.User.turns_by_nodes.Goals as goal

pub all_in_turn-requires : goal.all_in_turn-requires
all_in_turn-requires c =
    let are = subst (λ o. IfSome o (λ sets. AreHeld c.args.self.now.setting.now c.args.self.now.part sets.items)) c.in-Some.is c.in_ok-held.ensures in
    ap length c.as_slice.ensures.value ∙ are.count

pub returns-in-Some : goal.returns-in-Some
returns-in-Some c told s =
    let g = c.args.self.now.setting.now in
    let i = c.args.self.now.part in
    let are = subst (λ o. IfSome o (λ sets. AreHeld c.args.self.now.setting.now c.args.self.now.part sets.items)) c.in-Some.is c.in_ok-held.ensures in
    let turns = subst (λ (xs : List (List ℕ)). (n e : ℕ) → n < length xs → is_possible (node_of g i n).next e ≡ true → IsInTurn g i (get_or xs n []) e) c.as_slice.ensures.value (c.all_in_turn.ensures told) in
    turns_at_nodes g i c.shape-form.ensures.form c.in-Some.held.items c.args.self.now.within are turns s
