-- A network as its parts: for each component its alphabet and its table. What links parts, and which events they share.
use Rattle.std.specs.Prelude.{◌≤◌, ◌+◌, ℕ, List, [], ◌∷◌, map, get_or, IsTrue, if◌then◌else◌}
use Rattle.csp_base.specs.Members.{has}
use Rattle.csp_tables.specs.Table.{Node}

pub record Part : Type 0 where
  pub alphabet : List ℕ
  pub table : List Node

abbrev pub alphabets_of : List Part → List (List ℕ)
alphabets_of parts = map (λ p. p.alphabet) parts

-- past the end stands a part without events and without nodes
abbrev pub part_at : List Part → ℕ → Part
part_at parts i = get_or parts i (record { alphabet = []; table = [] })

-- the events of the list that are in the alphabet, in order
abbrev pub project : List ℕ → List ℕ → List ℕ
project alphabet [] = []
project alphabet (e ∷ s) = if has alphabet e then e ∷ project alphabet s else project alphabet s

-- how many of the alphabets have the event
abbrev pub sharers : List (List ℕ) → ℕ → ℕ
sharers [] e = 0
sharers (alphabet ∷ alphabets) e = if has alphabet e then sharers alphabets e + 1 else sharers alphabets e

-- no event is in three alphabets
abbrev pub TripleDisjoint : List (List ℕ) → Type 0
TripleDisjoint alphabets = (e : ℕ) → sharers alphabets e ≤ 2

-- each event of the set is in two alphabets or more: the set lies in the network's vocabulary
abbrev pub IsShared : List (List ℕ) → List ℕ → Type 0
IsShared alphabets M = (e : ℕ) → IsTrue (has M e) → 2 ≤ sharers alphabets e

-- the sets have an event in common
pub record Meet (M N : List ℕ) : Type 0 where
  pub event : ℕ
  pub first : IsTrue (has M event)
  pub second : IsTrue (has N event)

-- the sets have no event in common
abbrev pub AreApart : List ℕ → List ℕ → Type 0
AreApart M N = (e : ℕ) → IsTrue (has M e) → IsTrue (has N e) → ⊥

abbrev pub IsNonEmpty : List ℕ → Type 0
IsNonEmpty M = (e : ℕ) × IsTrue (has M e)
