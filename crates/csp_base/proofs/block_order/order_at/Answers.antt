use Rattle.std.proofs.Common.{◌<◌, length, ◌∙◌, arith}
use Rattle.csp_base.proofs.OrderLemmas.{order_at_end, order_at_numbers, order_at_first_words}
use Rattle.csp_base.proofs.block_order.order_at.Goals as goal

pub returns-then-min-eq0 : goal.returns-then-min-eq0
returns-then-min-eq0 c = c.cmp.ensures ∙ order_at_end c.args.left.now c.args.right.now (omega arith) c.requires.left_blocks c.requires.right_blocks

pub returns-then-left-right : goal.returns-then-left-right
returns-then-left-right c =
    let some_left : 0 < length c.args.left.now = omega arith in
    let some_right : 0 < length c.args.right.now = omega arith in
    c.cmp-then-left-right.ensures
    ∙ order_at_numbers c.args.left.now c.args.right.now (0, 0) some_left some_right c.requires.left_blocks c.requires.right_blocks c.if-left-right.true

pub returns : goal.returns
returns c =
    let some_left : 0 < length c.args.left.now = omega arith in
    let some_right : 0 < length c.args.right.now = omega arith in
    c.word_order.ensures
    ∙ order_at_first_words c.args.left.now c.args.right.now (0, 0) some_left some_right c.requires.left_blocks c.requires.right_blocks c.if-left-right.false
    (λ e. c.requires.differ some_left some_right (λ i. (c.if-left-right.false i, e i)))
