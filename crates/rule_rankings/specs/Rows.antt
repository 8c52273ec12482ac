-- Ranks and laps of all parts, whatever ranks an acceptance and tells the lap of an event. (No rule's decider cites this.)
use Rattle.std.specs.Prelude.{◌≡◌, ◌<◌, ℕ, ℤ, pos, List, [], length, get_or}
use Rattle.csp_tables.specs.Prelude.{IsNonEmpty, IsWithin, Part, PartRanks, Node, no_node}

-- the two lists are as long, and P holds of each place and what stands there in them
pub record AreEach {A B : Type 0} (a : A) (b : B) (P : ℕ → A → B → Type 0) (xs : List A) (ys : List B) : Type 0 where
  pub as_many : length xs ≡ length ys
  pub each : (k : ℕ) → k < length xs → P k (get_or xs k a) (get_or ys k b)

-- the rank of an acceptance: 0 where it is empty or does not lie in the vocabulary
pub record IsRanked (vocabulary : List ℕ) (rank : List ℕ → ℤ → Type 0) (M : List ℕ) (r : ℤ) : Type 0 where
  pub vertex : IsWithin M vocabulary → IsNonEmpty M → rank M r
  pub other : (IsWithin M vocabulary → IsNonEmpty M → ⊥) → r ≡ pos 0

-- the ranks of the acceptances of each node
abbrev pub AreRanks : (List ℕ → ℤ → Type 0) → List Node → List (List ℤ) → Type 0
AreRanks rank nodes rows = AreEach no_node [] (λ _ node row. AreEach [] (pos 0) (λ _. rank) node.accept row) nodes rows

-- the lap of the event of a step
abbrev pub HasLap : (ℕ → ℕ → Type 0) → ℕ × ℕ → ℕ → Type 0
HasLap lap step n = lap step.0 n

-- the laps of the events of each node
abbrev pub AreLaps : (ℕ → ℕ → Type 0) → List Node → List (List ℕ) → Type 0
AreLaps lap nodes rows = AreEach no_node [] (λ _ node row. AreEach (0, 0) 0 (λ _. HasLap lap) node.next row) nodes rows

-- the ranks and the laps of a part
pub record AreRanked (rank : List ℕ → ℤ → Type 0) (lap : ℕ → ℕ → Type 0) (part : Part) (made : PartRanks) : Type 0 where
  pub ranks : AreRanks rank part.table made.ranks
  pub laps : AreLaps lap part.table made.laps

-- those of each part, by its place
abbrev pub AreAllRanked : (ℕ → List ℕ → ℤ → Type 0) → (ℕ → ℕ → ℕ → Type 0) → List Part → List PartRanks → Type 0
AreAllRanked rank lap parts made =
    AreEach (record { alphabet = []; table = [] }) (record { ranks = []; laps = [] }) (λ i. AreRanked (rank i) (lap i)) parts made

-- no event has a lap
abbrev pub NoLap : ℕ → ℕ → ℕ → Type 0
NoLap i event lap = lap ≡ 0
