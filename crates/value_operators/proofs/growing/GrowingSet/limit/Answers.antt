use Rattle.std.proofs.Common.{arith}
use Rattle.value_operators.proofs.GrowingLaws.{few_limited}
use Rattle.value_operators.proofs.growing.GrowingSet.limit.Goals as goal

pub returns-then-are_few : goal.returns-then-are_few
returns-then-are_few c = let few = c.are_few.ensures c.if-are_few.true in few_limited _ c.self.inside.settled c.self.inside.waiting c.self.view_is (omega arith)
