-- What a network of components takes by a move, over any step relation of terms.
use Rattle.std.specs.Prelude.{◌≡◌, ℕ, Some, List, slice_get, slice_set}
use Rattle.csp_tables.specs.Prelude.{Label, silent, visible, Component, ComponentStep, NetworkStep, Tree, leaves}
use Rattle.network_walks.specs.Draws.{AreDrawn}
use Rattle.numbered_walks.specs.declared.moves.Move.{Move}
use Rattle.numbered_walks.specs.declared.moves.Move.TheVariants as move

module _ {T : Type 0} (Step : T → Label → T → Type 0) where
  -- a silent step of the network, by which the component in this place moves, and the others stay
  pub record MovesSilently (t : Tree T) (i : ℕ) (u : Tree T) : Type 0 where
    pub component : Component T
    pub there : slice_get (leaves t) i ≡ Some component
    pub next : Component T
    pub moves : ComponentStep Step component silent next
    pub others : leaves u ≡ slice_set (leaves t) i next
    pub step : NetworkStep Step t silent u

  -- the network to which a move leads
  abbrev pub Takes : Tree T → Move → Tree T → Type 0
  Takes t (move.Silent i) u = MovesSilently t i u
  Takes t (move.Event e) u = NetworkStep Step t (visible e) u

  -- the options of a network
  abbrev pub Has : Tree T → Move → Type 0
  Has t m = (u : Tree T) × Takes t m u

  -- it has no step
  abbrev pub IsStuck : Tree T → Type 0
  IsStuck t = (l : Label) (u : Tree T) → NetworkStep Step t l u → ⊥

module _ {T : Type 0} (Step : T → Label → T → Type 0) (Targets : T → Label → List T → Type 0) where
  -- the network to which a move leads by the numbers after y, of which z is the last that is drawn
  pub record Goes (t : Tree T) (y : ℕ) (m : Move) (u : Tree T) (z : ℕ) : Type 0 where
    pub takes : Takes Step t m u
    pub draws : AreDrawn Targets m 0 y (leaves t) (leaves u) z
