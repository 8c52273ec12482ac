-- The outline of a network: what follows from the alphabets of its components. A link joins two components whose alphabets meet, and has the events of both;
-- links stand in rising order, by the left component and then by the right one. The vocabulary is the events in two alphabets or more. An outline is
-- written as a shape without tables.
use Rattle.std.specs.Prelude.{ℕ, suc, List, [], ◌∷◌, ◌++◌, map, nat_le, if◌then◌else◌}
use Rattle.std.specs.List.{filter, flat_map}
use Rattle.csp_base.specs.Events.{inter_of, meets_of}
use Rattle.csp_tables.specs.Prelude.{Component, sharers, Link, Shape}

-- the link of the components i and j, where their alphabets meet
abbrev pub link_between : ℕ → List ℕ → ℕ → List ℕ → List Link
link_between i a j b = if meets_of a b then record { left = i; right = j; shared = inter_of a b } ∷ [] else []

-- the links of the component i with those from j on
abbrev pub links_with : ℕ → List ℕ → ℕ → List (List ℕ) → List Link
links_with i a j [] = []
links_with i a j (b ∷ bs) = link_between i a j b ++ links_with i a (suc j) bs

-- the links of the components from i on
abbrev pub links_from : ℕ → List (List ℕ) → List Link
links_from i [] = []
links_from i (a ∷ others) = links_with i a (suc i) others ++ links_from (suc i) others

-- the events in two alphabets or more
abbrev pub vocabulary_of : List (List ℕ) → List ℕ
vocabulary_of alphabets = filter (λ e. nat_le 2 (sharers alphabets e)) (flat_map (λ alphabet. alphabet) alphabets)

unfoldable pub outline_of : List (List ℕ) → Shape
outline_of alphabets = record {
  parts = map (λ alphabet. record { alphabet = alphabet; table = [] }) alphabets;
  links = links_from 0 alphabets;
  vocabulary = vocabulary_of alphabets;
}

-- the outline of a network's components
abbrev pub outline : {T : Type 0} → List (Component T) → Shape
outline cs = outline_of (map (λ c. c.alphabet) cs)
