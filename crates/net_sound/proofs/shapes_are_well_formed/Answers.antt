use Rattle.net_sound.proofs.FormOfTables.{shapes_are_well_formed}
use Rattle.net_sound.proofs.shapes_are_well_formed.Goals as goal

pub returns : goal.returns
returns g c = shapes_are_well_formed g.S.Transitions.step
