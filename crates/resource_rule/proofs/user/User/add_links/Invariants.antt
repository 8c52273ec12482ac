use Rattle.resource_rule.proofs.Prelude.{◌≡◌, get_or, AddsArcs, Below, HoldsWhile, ends_of}
use Rattle.resource_rule.proofs.user.User.add_links.Given as goal

abbrev pub invariant-loop-link : goal.invariant-loop-link
invariant-loop-link l = AddsArcs (Below (λ n k x. (get_or (ends_of l.self.setting.now.shape l.self.part) n 0 ≡ x) × HoldsWhile l.self.setting.now l.self.part k x) l.link-index) l.initial.sets l.sets
