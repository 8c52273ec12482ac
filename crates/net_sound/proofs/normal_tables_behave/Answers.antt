use Rattle.net_sound.proofs.ShapeOf.{normal_tables_behave, shapes_behave}
use Rattle.net_sound.proofs.normal_tables_behave.Goals as goal

pub returns-clause-each : goal.returns-clause-each
returns-clause-each g c = normal_tables_behave g.S.Transitions.step

pub returns-clause-all : goal.returns-clause-all
returns-clause-all g c = shapes_behave g.S.Transitions.step
