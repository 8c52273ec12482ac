use Rattle.resource_rule.proofs.Prelude.{[], length, replicate, AddsArcs, Below, HoldsWhile}
use Rattle.resource_rule.proofs.holdings.holdings.Given as goal

abbrev pub invariant-loop-part : goal.invariant-loop-part
invariant-loop-part l = AddsArcs (Below (HoldsWhile l.setting) l.part) (replicate (length l.setting.shape.links) []) l.sets.items
