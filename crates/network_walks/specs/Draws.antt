-- Where the components of a network go by a move, over any terms, with the terms to which one goes by a label, in their order.
use Rattle.std.specs.Prelude.{◌≡◌, ℕ, ◌+◌, MatchBool, List, [], ◌∷◌}
use Rattle.csp_tables.specs.Prelude.{Label, Component}
use Rattle.numbered_walks.specs.Prelude.{IsDrawn, label, takes_part}
use Rattle.numbered_walks.specs.declared.moves.Move.{Move}

module _ {T : Type 0} (Targets : T → Label → List T → Type 0) where
  -- among the terms to which the component goes by the label, d is drawn
  pub record DrawsTarget (c d : Component T) (l : Label) (y z : ℕ) : Type 0 where
    pub targets : List T
    pub are : Targets c.term l targets
    pub drawn : IsDrawn targets y d.term z
    pub alphabet : c.alphabet ≡ d.alphabet

  -- The components from the place i on, before and after the move: each that takes part goes to the term that is drawn, and the others stay. The numbers
  -- after y are drawn, one after another, and z is the last.
  abbrev pub AreDrawn : Move → ℕ → ℕ → List (Component T) → List (Component T) → ℕ → Type 0
  AreDrawn m i y [] [] z = y ≡ z
  AreDrawn m i y (c ∷ cs) (d ∷ ds) z = (w : ℕ) × MatchBool (takes_part m i c.alphabet) (DrawsTarget c d (label m) y w) ((c ≡ d) × (y ≡ w)) × AreDrawn m (i + 1) w cs ds z
  AreDrawn m i y cs ds z = ⊥
