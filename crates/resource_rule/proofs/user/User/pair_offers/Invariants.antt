use Rattle.resource_rule.proofs.Prelude.{◌≡◌, ℕ, take, has, is_offered_at}
use Rattle.resource_rule.proofs.user.User.pair_offers.Given as goal

abbrev pub invariant-loop-place : goal.invariant-loop-place
invariant-loop-place l = (e : ℕ) → has l.events e ≡ is_offered_at l.self.setting.now l.self.part (take l.place l.pairs) e
