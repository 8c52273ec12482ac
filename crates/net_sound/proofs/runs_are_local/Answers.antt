use Rattle.net_sound.proofs.Soundness.{runs_are_traces, runs_are_joint}
use Rattle.net_sound.proofs.runs_are_local.Goals as goal

pub returns : goal.returns
returns g c = record { traces = runs_are_traces g.S.Transitions.step; joint = runs_are_joint g.S.Transitions.step }
