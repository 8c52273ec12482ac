use Rattle.numbered_walks.proofs.Drawing.{step_drawn}
use Rattle.numbered_walks.proofs.draws.drawn_by.Goals as goal

pub returns : goal.returns
returns c = step_drawn c.args.steps.now c.args.number c.drawn_place.result c.after_draw.result c.index-steps-drawn_place.result c.drawn_place.ensures.place c.drawn_place.ensures.within c.after_draw.ensures
