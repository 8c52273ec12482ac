use Rattle.csp_base.proofs.Prelude.{◌%◌, ap, sym, ◌∙◌, le_refl, subst, arith, AreBlocks}
use Rattle.csp_base.proofs.BlockMembers.{AreBlocksFrom-weaken}
use Rattle.csp_base.proofs.MergeSteps.{first_word-word_at, AreBlocksFrom-rest_after}
use Rattle.csp_base.proofs.Finds.{bits_from, find_in_block, find_past_block}
use Rattle.csp_base.proofs.blocks.first_from.Goals as goal

pub returns-then-word-ne0 : goal.returns-then-word-ne0
returns-then-word-ne0 c =
    find_in_block c.args.blocks.now c.args.event c.word_at_front.result c.requires
    (c.word_at_front.ensures ∙ first_word-word_at _ _ c.blocks_from-rest.ensures.after ∙ c.blocks_from-rest.ensures.words _ (le_refl _)) c.if-word-ne0.true

pub first_event-requires : goal.first_event-requires
first_event-requires c =
    subst AreBlocks (sym c.past_front.ensures) (AreBlocksFrom-weaken 0 _ _ (omega arith) (AreBlocksFrom-rest_after _ _ c.blocks_from-rest.ensures.after))

pub returns : goal.returns
returns c =
    rw (c.first_event.ensures, c.past_front.ensures)
    (find_past_block _ _ _ c.requires c.blocks_from-rest.ensures.after c.blocks_from-rest.ensures.words
    (ap (λ w. bits_from w (c.args.event % 64)) (sym c.word_at_front.ensures) ∙ c.if-word-ne0.false))
