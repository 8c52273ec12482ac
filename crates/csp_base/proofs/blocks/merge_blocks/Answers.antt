use Rattle.std.proofs.Common.{◌<◌, ◌+◌, length, arith}
use Rattle.csp_base.proofs.BlockMembers.{length-blocks}
use Rattle.csp_base.proofs.MergeSteps.{IsMerging-step, IsMerging-members}
use Rattle.csp_base.proofs.blocks.merge_blocks.Goals as goal

pub overflow_add-first : goal.overflow_add-first
overflow_add-first c =
    omega (arith, length-blocks _ _ c.loop-first.invariant.first_ahead, length-blocks _ _ c.loop-first.invariant.second_ahead)

pub loop-first-preserved : goal.loop-first-preserved
loop-first-preserved c =
    let left : 0 < length c.loop-first.first.now + length c.loop-first.second.now = omega arith in
    rw (
      c.in_ok-push_word.ensures.ok,
      c.past_front-first.ensures,
      c.past_front-second.ensures,
      c.combine_words-word.ensures,
      c.word_at_front.ensures,
      c.word_at_front-in-loop-first.ensures,
      c.least_number-number.ensures,
    ) (IsMerging-step _ _ _ _ _ _ c.loop-first.invariant left)

pub returns-clause-members : goal.returns-clause-members
returns-clause-members c =
    IsMerging-members _ _ _ _ _ _ c.requires.left_blocks c.requires.right_blocks c.loop-first.invariant (omega arith)
