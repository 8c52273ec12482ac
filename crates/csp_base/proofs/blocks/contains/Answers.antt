use Rattle.csp_base.proofs.Prelude.{◌%◌, ap, sym, ◌∙◌, ◌==◌, has_bit, shr_and_one}
use Rattle.csp_base.proofs.Places.{has_from_front}
use Rattle.csp_base.proofs.blocks.contains.Goals as goal

pub returns : goal.returns
returns c =
    ap (λ n. n == 1) (shr_and_one c.word_at_front-word.result (c.args.event % 64))
    ∙ ap (λ w. has_bit w (c.args.event % 64)) c.word_at_front-word.ensures
    ∙ sym (has_from_front c.args.blocks.now c.blocks_from.result.now c.args.event c.requires c.blocks_from.ensures.after c.blocks_from.ensures.words)
