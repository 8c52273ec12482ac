use Rattle.resource_rule.proofs.Prelude.{◌≡◌, ◌<◌, ℕ, List, Some, slice_get, Joins, ends_of, UsesLink}
use Rattle.resource_rule.proofs.user.User.broken_use.Given as goal

abbrev pub invariant-loop-link : goal.invariant-loop-link
invariant-loop-link l = (k n j : ℕ) (s : List ℕ) → k < l.link-index → slice_get (ends_of l.self.setting.now.shape l.self.part) k ≡ Some n → Joins l.self.setting.now.shape l.self.part j n → UsesLink l.self.setting.now l.self.part n j s
