-- What is promised of a run: status 0 where it goes on, and status 1 where it is stuck.
use Rattle.std.specs.Prelude.{◌≡◌, ℕ, Bool, true, false, IsTrue, List, codes, map}
use Rattle.csp_tables.specs.Prelude.{NetworkStep, leaves, Path}
use Rattle.judgement_laws.specs.Lasting.{AllGoOn}
use Rattle.network_stages.specs.Networks.{IsLive, Network}
use Rattle.network_walks.specs.Moves.{IsStuck}
use Rattle.network_walks.specs.Walked.{IsNetworkWalk}
use Rattle.numbered_walks.specs.Prelude.{label}
use Rattle.numbered_walks.specs.declared.moves.Move.{Move}
use Rattle.process_steps.specs.ComponentStep.{ProcessStep}
use Rattle.report.specs.Report.{run_text}
use Rattle.dl_top.specs.Judgement.{SpellsOnlyNetwork}

-- the last line of a run's report
abbrev pub last_line : Bool → List ℕ
last_line true = codes "stuck"
last_line false = codes "goes on"

-- The moves are those of the walk that the seed fixes: as many as were asked for, or up to a state without an option, and stuck exactly there. Their labels are
-- those of a run of the network. Where the walk is stuck, that state has no step, and the network is live for no bound.
pub record IsRun (network : Network) (seed steps : ℕ) (moves : List Move) (is_stuck : Bool) : Type 0 where
  pub walk : IsNetworkWalk network seed steps moves is_stuck
  pub path : Path (NetworkStep (ProcessStep network.program)) network.tree (map label moves) walk.last
  pub stuck : IsTrue is_stuck → IsStuck (ProcessStep network.program) walk.last
  pub dead : IsTrue is_stuck → (bound : ℕ) → IsLive network bound → ⊥

-- The text spells exactly one network, of which no component can end or lacks a value that its steps need, and the report prints a run of it.
pub record SpellsRun (text : List ℕ) (seed steps : ℕ) (is_stuck : Bool) (report : List ℕ) : Type 0 where
  pub network : Network
  pub spells : SpellsOnlyNetwork text network
  pub lasting : AllGoOn network.program (leaves network.tree)
  pub moves : List Move
  pub run : IsRun network seed steps moves is_stuck
  pub is : report ≡ run_text network.program moves (last_line is_stuck)
