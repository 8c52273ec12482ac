use Rattle.std.proofs.Common.{arith}
use Rattle.csp_base.proofs.Standard.{take_rest, common_steps}
use Rattle.csp_base.proofs.MergeSteps.{IsMerging-next, IsMerging-none, IsMerging-found}
use Rattle.csp_base.proofs.blocks.gives_any.Goals as goal

pub loop-first-preserved : goal.loop-first-preserved
loop-first-preserved c =
    rw (take_rest c.loop-first.first.now 1, c.past_front-second.ensures)
    (IsMerging-next _ _ _ _ _ _ (0, 0) c.requires.of_left c.loop-first.invariant (grind (arith, common_steps)) c.ahead-second.ensures.after c.ahead-second.ensures.words
    (rw (c.combine_words.ensures, c.word_at_front.ensures) at c.if-combine_words-ne0.false))

pub returns-then-combine_words-ne0-clause-found : goal.returns-then-combine_words-ne0-clause-found
returns-then-combine_words-ne0-clause-found c =
    IsMerging-found _ _ _ _ _ _ (0, 0) c.requires.left_blocks c.requires.right_blocks c.loop-first.invariant (grind (arith, common_steps)) c.ahead-second.ensures.after c.ahead-second.ensures.words
    (rw (c.combine_words.ensures, c.word_at_front.ensures) at c.if-combine_words-ne0.true)

pub returns-clause-none : goal.returns-clause-none
returns-clause-none c =
    IsMerging-none _ _ _ _ _ c.requires.of_left c.requires.left_blocks c.requires.right_blocks c.loop-first.invariant (grind (arith, common_steps))
