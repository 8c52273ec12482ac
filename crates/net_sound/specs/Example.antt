-- Good rankings are had by networks that there are, and not by all networks. Two components take the event 0 and the event 1 in
-- turn. Where the first one has a silent step to do and then both begin with 0, a ranking is good, and the network is live
-- with the silent bound 1. Where one begins with 0 and the other with 1, the network is stuck where it begins. Nothing
-- else is wrong with it, and no ranking over any tables is good for it.
use Rattle.std.specs.Prelude.{◌≡◌, ℕ, pos, List, [], ◌∷◌}
use Rattle.csp_tables.specs.Prelude.{Label, silent, visible, Live, Tree, NetworkStep, leaves, leaf, parallel, none, operand, Part, PartRanks, Ranking, IsGoodRanking}
use Rattle.net_sound.specs.Soundness.{IsSound}

-- the states of a component that takes 0 and 1 in turn: it has a silent step to do; it has 0 to take; it has 1 to take
pub data Turn : Type 0 where
  waking : Turn
  at_zero : Turn
  at_one : Turn

abbrev pub TurnStep : Turn → Label → Turn → Type 0
TurnStep waking silent y = y ≡ at_zero
TurnStep at_zero (visible e) y = (e ≡ 0) × (y ≡ at_one)
TurnStep at_one (visible e) y = (e ≡ 1) × (y ≡ at_zero)
TurnStep _ _ y = ⊥

-- two of them, with both events in the alphabets
abbrev pub both : List ℕ
both = 0 ∷ 1 ∷ []

abbrev pub pair : Turn → Turn → Tree Turn
pair x y = parallel (operand both (leaf (record { alphabet = both; term = x })) (operand both (leaf (record { alphabet = both; term = y })) none))

-- the table of a component that takes 0 and 1 in turn
abbrev pub turns : Part
turns = record { alphabet = both; table = record { next = (0, 1) ∷ []; accept = (0 ∷ []) ∷ [] } ∷ record { next = (1, 0) ∷ []; accept = (1 ∷ []) ∷ [] } ∷ [] }

abbrev pub flat_ranks : PartRanks
flat_ranks = record { ranks = (pos 0 ∷ []) ∷ (pos 0 ∷ []) ∷ []; laps = (0 ∷ []) ∷ (0 ∷ []) ∷ [] }

-- all ranks and laps are 0
abbrev pub flat_ranking : Ranking
flat_ranking = record { scale = pos 0; parts = flat_ranks ∷ flat_ranks ∷ [] }

-- two that begin with 0, the first after a silent step
pub record ExampleIsLive : Type 0 where
  pub sound : IsSound TurnStep (pair waking at_zero) 1
  pub good : IsGoodRanking TurnStep (leaves (pair waking at_zero)) (turns ∷ turns ∷ []) flat_ranking
  pub live : Live (NetworkStep TurnStep) (pair waking at_zero) 1

-- one that begins with 0, and one that begins with 1
pub record ExampleIsStuck : Type 0 where
  pub sound : IsSound TurnStep (pair at_zero at_one) 0
  pub stuck : (l : Label) (t : Tree Turn) → NetworkStep TurnStep (pair at_zero at_one) l t → ⊥
  pub no_ranking : (parts : List Part) (ranking : Ranking) → IsGoodRanking TurnStep (leaves (pair at_zero at_one)) parts ranking → ⊥
