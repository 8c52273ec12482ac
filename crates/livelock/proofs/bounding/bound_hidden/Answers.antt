use Rattle.livelock.proofs.Prelude.{rules, subst, Network, at_refusal, goes_on, Answers, IsBounded, OrderDecides}
use Rattle.livelock.proofs.bounding.bound_hidden.Goals as goal

pub returns-in_err-expr : goal.returns-in_err-expr
unfolding IsBounded
returns-in_err-expr c = search (rules, at_refusal)

pub returns-in_err-events : goal.returns-in_err-events
unfolding IsBounded
returns-in_err-events c = goes_on _ _ _ _ c.in_ok-expr.expr.now (search rules) _ (search (rules, at_refusal))

pub returns-in_err-tabled : goal.returns-in_err-tabled
unfolding IsBounded
returns-in_err-tabled c = goes_on _ _ _ _ c.in_ok-expr.expr.now (search rules) _ (goes_on _ _ _ _ c.in_ok-events.events (search rules) _ (search (rules, at_refusal)))

pub returns : goal.returns
unfolding IsBounded
returns c =
    goes_on _ _ _ _ c.in_ok-expr.expr.now (search rules) _ (goes_on _ _ _ _ c.in_ok-events.events (search rules) _ (goes_on _ _ _ _ _ c.in_ok-tabled.ensures.tables _
    (subst (λ (n : Network). Answers (OrderDecides n c.in_ok-events.events) c.bound_with.result) c.in_ok-tabled.ensures.network c.bound_with.ensures)))
