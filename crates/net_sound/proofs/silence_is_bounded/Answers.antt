use Rattle.net_sound.proofs.Soundness.{silence_is_bounded}
use Rattle.net_sound.proofs.silence_is_bounded.Goals as goal

pub returns : goal.returns
returns g c = silence_is_bounded g.S.Transitions.step
