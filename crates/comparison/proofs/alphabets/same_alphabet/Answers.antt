use Rattle.comparison.proofs.Prelude.{ap₂, nat_eq, ◌∙◌, pointwise}
use Rattle.comparison.proofs.Lists.{alphabets_match}
use Rattle.comparison.proofs.alphabets.same_alphabet.Goals as goal

pub returns : goal.returns
returns c =
    alphabets_match c.args.seats.now c.args.others.now c.args.component c.in-Some.seat.now c.in-Some-seat_at.other.now c.eq.result c.in-Some.ensures.there c.in-Some-seat_at.ensures.there
    (c.eq.ensures ∙ ap₂ (pointwise nat_eq) c.alphabet.ensures c.alphabet-2.ensures)
