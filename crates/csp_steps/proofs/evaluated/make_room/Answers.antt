use Rattle.csp_steps.proofs.Noting.{fits_emptied}
use Rattle.csp_steps.proofs.evaluated.make_room.Goals as goal

pub returns : goal.returns
returns c = λ p trees h. fits_emptied p trees c.args.evaluated.now c.new.result c.new-2.result c.args.more c.new-2.ensures.empty h
