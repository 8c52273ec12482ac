use Rattle.resource_rule.proofs.Prelude.{◌≡◌, ◌∙◌, List, Option, ℕ, false, ap, sym, IfOk-weaker, UseSets, use_at, UsesInTurn}
use Rattle.resource_rule.proofs.Using.{found_of}
use Rattle.resource_rule.proofs.users.UsersDecider.broken_run.Goals as goal

pub invariant_of-user-clause-user : goal.invariant_of-user-clause-user
invariant_of-user-clause-user c = sym (c.is_resource.ensures ∙ ap (λ (u : UseSets). u.resource) c.uses.ensures) ∙ c.if-is_resource.false

pub returns : goal.returns
returns c =
    let g = c.args.self.now.setting.now in
    let user = sym (c.is_resource.ensures ∙ ap (λ (u : UseSets). u.resource) c.uses.ensures) ∙ c.if-is_resource.false in
    IfOk-weaker c.broken_use.result _ _ (λ (run : Option (List ℕ)) found. found_of g.shape c.args.part ((use_at g.uses c.args.part).resource ≡ false) (UsesInTurn g.shape g.uses c.args.part) run user found) c.broken_use.ensures
