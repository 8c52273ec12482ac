-- The link of an event, the links of a part, and the steps of a part that runs have to follow.
use Rattle.std.specs.Prelude.{◌≡◌, ◌<◌, ℕ, zero, suc, List, [], ◌∷◌, ◌++◌, IsTrue, length, slice_index, slice_index_or, if◌then◌else◌}
use Rattle.csp_base.specs.Members.{has}
use Rattle.csp_tables.specs.Prelude.{part_at, Shape, is_end, link_at}
use Rattle.observed_runs.specs.Enough.{HaveEnough}

-- the event is one of the link's
pub record IsOwner (shape : Shape) (l e : ℕ) : Type 0 where
  pub within : l < length shape.links
  pub event : IsTrue (has (link_at shape l).shared e)

-- all events of the set lie on one link
abbrev pub IsOnOne : Shape → List ℕ → Type 0
IsOnOne shape M = (l m e f : ℕ) → l < length shape.links → m < length shape.links → IsTrue (has M e) → IsTrue (has M f) → IsTrue (has (link_at shape l).shared e) → IsTrue (has (link_at shape m).shared f) → l ≡ m

-- for each event 1 + the link that has it, 0 where none has
pub record AreOwners (shape : Shape) (owners : List ℕ) : Type 0 where
  pub sound : (e l : ℕ) → slice_index owners e ≡ suc l → IsOwner shape l e
  pub complete : (e l : ℕ) → IsOwner shape l e → slice_index owners e ≡ suc l

-- the links of the part i among the first n, in rising order
abbrev pub ends_below : Shape → ℕ → ℕ → List ℕ
ends_below shape i zero = []
ends_below shape i (suc n) = if is_end shape i n then ends_below shape i n ++ n ∷ [] else ends_below shape i n

abbrev pub ends_of : Shape → ℕ → List ℕ
ends_of shape i = ends_below shape i (length shape.links)

-- for each part its links among the first n
pub record AreEnds (shape : Shape) (n : ℕ) (ends : List (List ℕ)) : Type 0 where
  pub count : length ends ≡ length shape.parts
  pub each : (i : ℕ) → i < length shape.parts → slice_index_or ends i [] ≡ ends_below shape i n

-- for each of the first n parts enough of its steps for an observer of shared events
pub record AreSteps (shape : Shape) (n : ℕ) (steps : List (List (List (ℕ × ℕ)))) : Type 0 where
  pub count : length steps ≡ n
  pub each : (i : ℕ) → i < n → HaveEnough shape.vocabulary (part_at shape.parts i).table (slice_index_or steps i [])
