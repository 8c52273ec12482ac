use Rattle.resource_rule.proofs.Prelude.{◌≡◌, ℕ, take, has}
use Rattle.resource_rule.proofs.nodes.link_set.Given as goal

abbrev pub invariant-loop-link : goal.invariant-loop-link
invariant-loop-link l = (x : ℕ) → has l.made x ≡ has (take l.link-index l.links) x
