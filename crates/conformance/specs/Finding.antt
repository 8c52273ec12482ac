-- What is looked for in the pairs of a table's node and a node of its specification to which runs lead. (For private contracts: no public one cites
-- this.)
use Rattle.std.specs.Prelude.{◌<◌, ◌≤◌, ℕ, List, [], length, get_or}
use Rattle.csp_tables.specs.Prelude.{Node, node_at}
use Rattle.observed_runs.specs.Prelude.{pair_at}
use Rattle.conformance.specs.Conforming.{HasWithin}

-- the first n pairs are at a node of the specification
abbrev pub AreInside : List Node → List (ℕ × ℕ) → ℕ → Type 0
AreInside specified pairs n = (k : ℕ) → k < n → (pair_at pairs k).1 < length specified

-- the pair in this place is the first that is not
pub record IsFirstOutside (specified : List Node) (pairs : List (ℕ × ℕ)) (place : ℕ) : Type 0 where
  pub within : place < length pairs
  pub outside : length specified ≤ (pair_at pairs place).1
  pub before : AreInside specified pairs place

-- an acceptance of the sets contains none of the others
pub record Refuses (sets others : List (List ℕ)) : Type 0 where
  pub place : ℕ
  pub within : place < length sets
  pub refuses : HasWithin others (get_or sets place []) → ⊥

-- each of the sets contains one of the others
abbrev pub AllContain : List (List ℕ) → List (List ℕ) → Type 0
AllContain sets others = (k : ℕ) → k < length sets → HasWithin others (get_or sets k [])

pub record RefusesAt (table specified : List Node) (pair : ℕ × ℕ) : Type 0 where
  pub there : pair.1 < length specified
  pub refuses : Refuses (node_at table pair.0).accept (node_at specified pair.1).accept

abbrev pub AcceptsAt : List Node → List Node → ℕ × ℕ → Type 0
AcceptsAt table specified pair = pair.1 < length specified → AllContain (node_at table pair.0).accept (node_at specified pair.1).accept

-- each of the first n pairs does
abbrev pub AllAccept : List Node → List Node → List (ℕ × ℕ) → ℕ → Type 0
AllAccept table specified pairs n = (k : ℕ) → k < n → AcceptsAt table specified (pair_at pairs k)
