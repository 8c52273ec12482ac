-- What a walk of a network says of its runs.
--
-- Each move is a step of the network, so the moves of a walk are the labels of a run. A silent step of a well-nested network is one of a component, so where
-- the network has no option it has no step. A state without steps is stable and has no event, so a network that reaches one is not live.
use Rattle.std.specs.Prelude.{◌≡◌, ◌↔◌, ℕ, Bool, true, List, map}
use Rattle.csp_tables.specs.Prelude.{Label, Live, NetworkStep, Tree, Path, Reached, WellNested}
use Rattle.numbered_walks.specs.Prelude.{HasNone, IsWalk, IsWalkOf, label}
use Rattle.numbered_walks.specs.declared.moves.Move.{Move}
use Rattle.network_walks.specs.Moves.{Goes, Has, IsStuck}

-- the moves of a walk are the labels of a run
abbrev pub WalksAreRuns : {T : Type 0} → (T → Label → T → Type 0) → (T → Label → List T → Type 0) → Type 0
WalksAreRuns {T} Step Targets = (x y z : ℕ) (t u : Tree T) (moves : List Move) → IsWalk (Has Step) (Goes Step Targets) x y t moves u z → Path (NetworkStep Step) t (map label moves) u

-- a network has no option exactly where it has no step
abbrev pub NoMoveMeansStuck : {T : Type 0} → (T → Label → T → Type 0) → Type 0
NoMoveMeansStuck {T} Step = (t : Tree T) → WellNested t → HasNone (Has Step t) ↔ IsStuck Step t

-- a network that reaches a state without steps is live for no bound
abbrev pub StuckIsNotLive : {T : Type 0} → (T → Label → T → Type 0) → Type 0
StuckIsNotLive {T} Step = (t u : Tree T) (bound : ℕ) → Reached (NetworkStep Step) t u → IsStuck Step u → Live (NetworkStep Step) t bound → ⊥

-- a network with a walk that ends stuck is live for no bound
abbrev pub StuckWalksRefuteLive : {T : Type 0} → (T → Label → T → Type 0) → (T → Label → List T → Type 0) → Type 0
StuckWalksRefuteLive {T} Step Targets = (seed steps bound : ℕ) (t : Tree T) (moves : List Move) → WellNested t → IsWalkOf (Has Step) (Goes Step Targets) seed steps t moves true → Live (NetworkStep Step) t bound → ⊥

-- A network has at most one walk for a seed and so many steps: two of them have the same moves, and end alike in the same state.
pub record AreOneWalk {S : Type 0} (moves others : List Move) (is_stuck also_stuck : Bool) (last end : S) : Type 0 where
  pub moves_same : moves ≡ others
  pub stuck_same : is_stuck ≡ also_stuck
  pub last_same : last ≡ end

abbrev pub TheWalkIsOne : {T : Type 0} → (T → Label → T → Type 0) → (T → Label → List T → Type 0) → Type 0
TheWalkIsOne {T} Step Targets =
    (seed steps : ℕ) (t : Tree T) (moves others : List Move) (b c : Bool)
    → (walk : IsWalkOf (Has Step) (Goes Step Targets) seed steps t moves b) → (other : IsWalkOf (Has Step) (Goes Step Targets) seed steps t others c) → AreOneWalk moves others b c walk.last other.last
