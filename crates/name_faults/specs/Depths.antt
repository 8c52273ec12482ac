-- The depths of definitions over the bodies that code keeps. It serves the contracts of this crate.
use Rattle.std.specs.Prelude.{◌≡◌, ◌+◌, ◌∷◌, ℕ, zero, suc, max, min, Option, Some, None, List, [], slice_get, slice_index}
use Rattle.name_faults.specs.declared.body.Body.{Body}

-- how deep uses reach
abbrev pub deepest_use : (ℕ → ℕ) → List (ℕ × ℕ) → ℕ
deepest_use depth_of [] = 0
deepest_use depth_of (u ∷ us) = max (u.1 + depth_of u.0) (deepest_use depth_of us)

-- how deep a body reaches
abbrev pub deepest_of : (ℕ → ℕ) → Body → ℕ
deepest_of depth_of b = max b.level (deepest_use depth_of b.uses)

abbrev pub deepest_if : (ℕ → ℕ) → Option Body → ℕ
deepest_if depth_of None = 0
deepest_if depth_of (Some b) = deepest_of depth_of b

-- the depth of the definition with the number d, where so many uses may be entered
unfoldable pub within : ℕ → List Body → ℕ → ℕ
within zero bodies d = 0
within (suc n) bodies d = deepest_if (within n bodies) (slice_get bodies d)

-- These are the depths of all definitions, as far as the limit, where so many uses may be entered.
unfoldable pub AreWithin : ℕ → ℕ → List Body → List ℕ → Type 0
AreWithin limit n bodies depths = (d : ℕ) → slice_index depths d ≡ min (within n bodies d) limit
