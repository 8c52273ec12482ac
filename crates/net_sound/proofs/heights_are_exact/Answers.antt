use Rattle.net_sound.proofs.Heights.{heights_are_exact, heights_add_up}
use Rattle.net_sound.proofs.heights_are_exact.Goals as goal

pub returns : goal.returns
returns g c = record { each = heights_are_exact g.S.Transitions.step; sum = heights_add_up g.S.Transitions.step }
