use Rattle.resource_rule.proofs.Prelude.{◌∙◌, List, ℕ, ap, sym, subst, IfSome, both_ways, UseSets, use_at, AreHeld, HoldsWhile}
use Rattle.resource_rule.proofs.Adding.{adds_none}
use Rattle.resource_rule.proofs.holdings.add_part.Goals as goal

pub returns-then-is_resource : goal.returns-then-is_resource
returns-then-is_resource c =
    let resource = sym (c.is_resource.ensures ∙ ap (λ (u : UseSets). u.resource) c.uses.ensures) ∙ c.if-is_resource.true in
    adds_none (HoldsWhile c.args.setting.now c.args.part) c.args.sets.now (λ k l x. both_ways (use_at c.args.setting.now.uses c.args.part).resource x.user resource)

pub invariant_of-user-clause-user : goal.invariant_of-user-clause-user
invariant_of-user-clause-user c = sym (c.is_resource.ensures ∙ ap (λ (u : UseSets). u.resource) c.uses.ensures) ∙ c.if-is_resource.false

pub add_nodes-requires-clause-held : goal.add_nodes-requires-clause-held
add_nodes-requires-clause-held c =
    let are = subst (λ o. IfSome o (λ sets. AreHeld c.args.setting.now c.args.part sets.items)) c.in-Some.is c.in_ok-held.ensures in
    subst (λ (xs : List (List ℕ)). AreHeld c.args.setting.now c.args.part xs) (sym c.as_slice.ensures.value) are
