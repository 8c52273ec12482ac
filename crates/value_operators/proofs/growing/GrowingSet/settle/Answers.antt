use Rattle.value_operators.proofs.GrowingLaws.{merged_parted, merged_same}
use Rattle.value_operators.proofs.growing.GrowingSet.settle.Goals as goal

pub invariant_of-result : goal.invariant_of-result
invariant_of-result c = merged_parted _ _ _ _ c.in_ok-settled.ensures c.new.ensures c.self.invariant

pub returns : goal.returns
returns c = merged_same _ _ _ _ c.in_ok-settled.ensures c.new.ensures c.self.invariant _ c.self.view_is
