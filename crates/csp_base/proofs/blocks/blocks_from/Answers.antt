use Rattle.csp_base.proofs.Prelude.{sym, take_rest}
use Rattle.csp_base.proofs.Places.{word_at-drop}
use Rattle.csp_base.proofs.blocks.blocks_from.Goals as goal

pub returns : goal.returns
returns c = rw (take_rest c.args.blocks.now c.place_of-place.result) record {
  after = c.place_of-place.ensures.after;
  words = λ b l. sym (word_at-drop c.args.blocks.now c.place_of-place.result b c.args.number c.requires c.place_of-place.ensures.before l);
}
