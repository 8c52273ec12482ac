use Rattle.value_operators.proofs.GrowingLaws.{one_part}
use Rattle.value_operators.proofs.growing.GrowingSet.into_set.Goals as goal

pub returns-then-is_empty : goal.returns-then-is_empty
returns-then-is_empty c = one_part _ _ _ c.self.view_is c.self.invariant.settled_rises (c.is_empty.ensures.0 c.if-is_empty.true)
