use Rattle.csp_base.proofs.Prelude.{◌∙◌, take_rest}
use Rattle.csp_base.proofs.OrderLemmas.{order_past_front, blocks_past_front}
use Rattle.csp_base.proofs.block_order.order.Goals as goal

pub order_at-requires-clause-left_blocks : goal.order_at-requires-clause-left_blocks
order_at-requires-clause-left_blocks c = rw take_rest (blocks_past_front _ _ c.requires.left_blocks)

pub order_at-requires-clause-right_blocks : goal.order_at-requires-clause-right_blocks
order_at-requires-clause-right_blocks c = rw take_rest (blocks_past_front _ _ c.requires.right_blocks)

pub returns : goal.returns
returns c = (simp take_rest at c.order_at.ensures) ∙ order_past_front c.args.left.now c.args.right.now _ c.common_front-front.ensures.same
