use Rattle.net_sound.proofs.Example.{example_is_live, example_is_stuck}
use Rattle.net_sound.proofs.examples.Goals as goal

pub returns : goal.returns
returns c = record { live = example_is_live; stuck = example_is_stuck }
