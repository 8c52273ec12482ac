use Rattle.net_sound.proofs.Stuck.{none_is_stuck}
use Rattle.net_sound.proofs.none_is_stuck.Goals as goal

pub returns : goal.returns
returns c = none_is_stuck
