use Rattle.csp_base.proofs.OrderLemmas.{differing_bit}
use Rattle.csp_base.proofs.block_order.word_order.Goals as goal

pub overflow_shr-left : goal.overflow_shr-left
overflow_shr-left c = (differing_bit _ _ c.ranges.left.fits c.ranges.right.fits c.requires).0

pub overflow_shr-has-else-left_more : goal.overflow_shr-has-else-left_more
overflow_shr-has-else-left_more c = (differing_bit _ _ c.ranges.left.fits c.ranges.right.fits c.requires).0
