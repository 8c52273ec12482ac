use Rattle.net_sound.proofs.ShapeOf.{shapes_are_busy}
use Rattle.net_sound.proofs.shapes_are_busy.Goals as goal

pub returns : goal.returns
returns g c = shapes_are_busy g.S.Transitions.step
