-- The depth of definitions of data with all of their uses expanded: a use is one node above the body that it names and above its arguments. Uses of
-- processes are not expanded, and the name of a datatype is a node without parts.
use Rattle.std.specs.Prelude.{◌+◌, ◌∷◌}
use Rattle.script_names.specs.Sources.{Sense, ℕ, zero, suc, max, Option, Some, None, List, [], slice_get, Occurrence, Uses, Form, Parallel, Use, Entity}
use Rattle.script_names.specs.Names.{Name}

module _ (depth_of : ℕ → ℕ) where
  -- how deep what a name stands for reaches below its use
  abbrev pub below : Sense → ℕ
  below (Sense.Declared (Entity.Definition d n)) = depth_of d
  below (Sense.Declared (Entity.Set d)) = depth_of d
  below _ = 0

  -- how deep a form or a use reaches
  abbrev pub reach : Occurrence Name → ℕ
  reach (Form c place) = place.level
  reach (Parallel place) = place.level
  reach (Uses x s (Use.Alone place)) = place.level + below s
  reach (Uses x s (Use.Called n place)) = place.level + below s
  reach _ = 0

  -- how deep a body reaches that says this
  abbrev pub deepest : List (Occurrence Name) → ℕ
  deepest [] = 0
  deepest (o ∷ os) = max (reach o) (deepest os)

abbrev pub said_by : Option (List (Occurrence Name)) → List (Occurrence Name)
said_by None = []
said_by (Some os) = os

-- The depth of the definition with the number d, where so many uses may still be entered, one inside another. `bodies` has what the body of each
-- definition says that is expanded where it is used.
abbrev pub depth_within : ℕ → List (List (Occurrence Name)) → ℕ → ℕ
depth_within zero bodies d = 0
depth_within (suc n) bodies d = deepest (depth_within n bodies) (said_by (slice_get bodies d))
