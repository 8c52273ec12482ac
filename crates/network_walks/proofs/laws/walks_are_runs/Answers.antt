use Rattle.network_walks.proofs.Prelude.{AreTargets, ProcessStep, targets_one}
use Rattle.network_walks.proofs.One.{the_walk_is_one}
use Rattle.network_walks.proofs.Runs.{no_move_means_stuck, stuck_is_not_live, stuck_walks_refute_live, walks_are_runs}
use Rattle.network_walks.proofs.laws.walks_are_runs.Goals as goal

pub returns : goal.returns
returns c = record {
  runs = λ p. walks_are_runs (ProcessStep p) (AreTargets p);
  none = λ p. no_move_means_stuck (ProcessStep p);
  stuck = λ p. stuck_is_not_live (ProcessStep p);
  refute = λ p. stuck_walks_refute_live (ProcessStep p) (AreTargets p);
  one = λ p. the_walk_is_one (ProcessStep p) (AreTargets p) (targets_one p);
}
