use Rattle.csp_steps.proofs.Noting.{fits_stepped}
use Rattle.csp_steps.proofs.evaluated.keep_steps.Goals as goal

pub returns : goal.returns
returns c =
    λ p trees h within each. fits_stepped p trees c.make_room.new.evaluated c.args.id c.in_ok-put_value.field-0 c.args.steps.now c.in_ok-copy.copy c.put_value.new.values c.put_value.new.numbers (c.make_room.ensures p trees h) within each
    c.in_ok-copy.ensures c.in_ok-put_value.ensures.number c.in_ok-put_value.ensures.values c.in_ok-put_value.ensures.numbers
