use Rattle.net_sound.proofs.Soundness.{good_rankings_mean_live}
use Rattle.net_sound.proofs.good_rankings_mean_live.Goals as goal

pub returns : goal.returns
returns g c = good_rankings_mean_live g.S.Transitions.step
