use Rattle.resource_rule.proofs.Prelude.{[], get_or, AddsArcs, Below, OffersWhile}
use Rattle.resource_rule.proofs.user.User.add_nodes.Given as goal

abbrev pub invariant-loop-node : goal.invariant-loop-node
invariant-loop-node l = AddsArcs (Below (λ n. OffersWhile l.self.setting.now l.self.part n (get_or l.held n [])) l.node) l.initial.sets l.sets
