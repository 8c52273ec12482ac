-- What one node of a part shows. (No rule's decider cites this.)
use Rattle.std.specs.Prelude.{◌<◌, ◌⊎◌, ℕ, List, [], Bool, not, ◌||◌, ◌&&◌, IsTrue, length, get_or, if◌then◌else◌}
use Rattle.csp_base.specs.Prelude.{has, is_subset_of, meets_of}
use Rattle.csp_tables.specs.Prelude.{is_possible, AreApart, IsWithin, RoleSets}

-- an acknowledgement where the link is open, a request where it is closed
abbrev pub is_in_turn : RoleSets → Bool → ℕ → Bool
is_in_turn roles opened e = if opened then has roles.cack e || has roles.sack e else (has roles.creq e || has roles.sreq e)

-- what is possible on the link is in turn
abbrev pub AreInTurn : List (ℕ × ℕ) → List ℕ → RoleSets → Bool → Type 0
AreInTurn next shared roles opened = (e : ℕ) → IsTrue (is_possible next e) → IsTrue (has shared e) → IsTrue (is_in_turn roles opened e)

-- P holds of each of the acceptances that lies in the vocabulary
abbrev pub EachShared : (List ℕ → Type 0) → List ℕ → List (List ℕ) → Type 0
EachShared P vocabulary accept = (k : ℕ) → k < length accept → IsWithin (get_or accept k []) vocabulary → P (get_or accept k [])

-- an acceptance has all requests to the part or none of them
abbrev pub HasAllOrNone : List ℕ → List ℕ → Type 0
HasAllOrNone requests M = IsWithin requests M ⊎ AreApart M requests

-- the acceptance is in the vocabulary, and has some of the requests and not all
abbrev pub splits : List ℕ → List ℕ → List ℕ → Bool
splits vocabulary requests M = is_subset_of M vocabulary && (meets_of M requests && not (is_subset_of requests M))

-- the acceptance is in the vocabulary, and has some of the requests
abbrev pub takes : List ℕ → List ℕ → List ℕ → Bool
takes vocabulary requests M = is_subset_of M vocabulary && meets_of M requests

-- the acceptance is in the vocabulary, and lacks some of the acknowledgements
abbrev pub refuses : List ℕ → List ℕ → List ℕ → Bool
refuses vocabulary acknowledgements M = is_subset_of M vocabulary && not (is_subset_of acknowledgements M)

-- the step is on the link and out of turn
abbrev pub is_out_of_turn : List ℕ → RoleSets → Bool → ℕ × ℕ → Bool
is_out_of_turn shared roles opened step = has shared step.0 && not (is_in_turn roles opened step.0)
