use Rattle.resource_rule.proofs.Prelude.{◌≡◌, ◌||◌, ℕ, take, has, is_offered}
use Rattle.resource_rule.proofs.offers.with_offers.Given as goal

abbrev pub invariant-loop-set : goal.invariant-loop-set
invariant-loop-set l = (e : ℕ) → has l.made e ≡ (has l.initial.made e || is_offered l.vocabulary (take l.set-index l.accept) e)
