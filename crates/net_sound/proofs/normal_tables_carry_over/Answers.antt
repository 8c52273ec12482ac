use Rattle.net_sound.proofs.Normal.{normal_tables_carry_over}
use Rattle.net_sound.proofs.normal_tables_carry_over.Goals as goal

pub returns : goal.returns
returns g c = normal_tables_carry_over g.S.Transitions.step
