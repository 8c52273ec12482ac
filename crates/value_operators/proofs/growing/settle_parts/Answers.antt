use Rattle.std.proofs.Common.{arith}
use Rattle.value_operators.proofs.GrowingLaws.{merged_limited, merged_parted}
use Rattle.value_operators.proofs.growing.settle_parts.Goals as goal

pub invariant_of-result : goal.invariant_of-result
invariant_of-result c = merged_parted _ _ _ _ c.in_ok-settled.ensures c.new.ensures c.requires

pub returns : goal.returns
returns c = merged_limited _ _ _ _ c.in_ok-settled.ensures c.new.ensures c.requires (omega arith)
