use Rattle.network_layout.proofs.Prelude.{ap, ◌||◌, ◌∙◌, has}
use Rattle.network_layout.proofs.Triples.{counted_next}
use Rattle.network_layout.proofs.triple.count.Goals as goal

pub returns : goal.returns
returns c = λ rows far.
    counted_next rows c.args.alphabet.now c.args.counted.now _ far c.in_ok-once.ensures.members
    (λ e. c.in_ok-twice.ensures.members e ∙ ap (λ b. has c.args.counted.now.twice e || b) (c.in_ok-again.ensures.members e))
    (λ e. c.in_ok-thrice.ensures.members e ∙ ap (λ b. has c.args.counted.now.thrice e || b) (c.in_ok-more.ensures.members e))
