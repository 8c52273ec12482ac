-- The verdict on a network of which a walk is asked: the point at which it is refused, and then the walk.
use Rattle.std.specs.Prelude.{◌≡◌, ℕ, Bool, true, false, List}
use Rattle.csp_steps.specs.Order.{AreTargets}
use Rattle.network_stages.specs.Prelude.{Network, HasNoTables, HasTables}
use Rattle.numbered_walks.specs.Prelude.{IsWalkOf}
use Rattle.numbered_walks.specs.declared.moves.Move.{Move}
use Rattle.process_steps.specs.ComponentStep.{ProcessStep}
use Rattle.report.specs.Prelude.{RefusedOr}
use Rattle.report.specs.declared.answer.Verdict.{Verdict}
use Rattle.report.specs.declared.answer.Done.TheVariants as done
use Rattle.report.specs.declared.answer.Side.TheVariants as side
use Rattle.report.specs.declared.answer.Verdict.TheVariants as verdict
use Rattle.network_walks.specs.Moves.{Goes, Has}

-- the walk of a network from a seed: so many steps, or fewer where none is left. A component that can go to several processes by a label has them in the order
-- of its list of steps
abbrev pub IsNetworkWalk : Network → ℕ → ℕ → List Move → Bool → Type 0
IsNetworkWalk network seed steps moves is_stuck =
    IsWalkOf (Has (ProcessStep network.program)) (Goes (ProcessStep network.program) (AreTargets network.program)) seed steps network.tree moves is_stuck

-- the verdict that tells a walk which ends stuck, and one that does not
abbrev pub walk_verdict : Bool → List Move → Verdict
walk_verdict true moves = verdict.Stuck moves
walk_verdict false moves = verdict.Done (done.Walked moves)

-- the verdict tells the walk of the network
pub record TellsWalk (network : Network) (seed steps : ℕ) (v : Verdict) : Type 0 where
  pub moves : List Move
  pub is_stuck : Bool
  pub walk : IsNetworkWalk network seed steps moves is_stuck
  pub is : v ≡ walk_verdict is_stuck moves

-- a component has no table
unfoldable pub IsWalked : Network → ℕ → ℕ → Verdict → Type 0
IsWalked network seed steps = RefusedOr side.Script (HasNoTables network) (HasTables network) (λ tables. TellsWalk network seed steps)
