-- How deep bodies reach, from what they say. It serves the contracts of this crate.
use Rattle.std.specs.Prelude.{◌∷◌, ℕ, max, List, [], map, slice_get}
use Rattle.std.specs.List.{flat_map}
use Rattle.script_names.specs.Prelude.{kind_class, Name, first_of, tree_says, bodies_from, body_place, expanded_body}
use Rattle.script_names.specs.declared.occurrence.Occurrence.{Occurrence}
use Rattle.script_names.specs.declared.occurrence.Occurrence.TheVariants.{Uses, Form, Parallel}
use Rattle.csp_text.specs.declared.script.Decl.{Decl}
use Rattle.csp_text.specs.declared.tree.Tree.{Tree}
use Rattle.name_faults.specs.declared.body.Body.{Body}
use Rattle.script_names.specs.declared.kinds.Entity.{Entity}
use Rattle.script_names.specs.declared.kinds.Use.{Use}
use Rattle.script_names.specs.declared.kinds.Sense.{Sense}
use Rattle.name_tables.specs.declared.meanings.Meanings.{Meanings}

-- the level of a form or a use
abbrev pub level_of : Occurrence Name → ℕ
level_of (Form c place) = place.level
level_of (Parallel place) = place.level
level_of (Uses x s (Use.Alone place)) = place.level
level_of (Uses x s (Use.Called n place)) = place.level
level_of _ = 0

-- the definition that is used at this level
abbrev pub used : Sense → ℕ → List (ℕ × ℕ)
used (Sense.Declared (Entity.Definition d n)) level = (d, level) ∷ []
used (Sense.Declared (Entity.Set d)) level = (d, level) ∷ []
used _ level = []

-- the definition that is used, with the level of the use
abbrev pub use_of : Occurrence Name → List (ℕ × ℕ)
use_of (Uses x s (Use.Alone place)) = used s place.level
use_of (Uses x s (Use.Called n place)) = used s place.level
use_of _ = []

abbrev pub greatest_level : List (Occurrence Name) → ℕ
greatest_level [] = 0
greatest_level (o ∷ os) = max (level_of o) (greatest_level os)

-- how deep a body reaches that says this
abbrev pub body_of : List (Occurrence Name) → Body
body_of os = record { level = greatest_level os; uses = flat_map use_of os }

-- the bodies of declarations, from the definition with this number on
abbrev pub bodies_after : Meanings → ℕ → List Decl → List Body
bodies_after m d decls = map body_of (bodies_from (first_of m.names.now) m.kinds.now d decls)

-- the body of the definition with this number
abbrev pub expanded_at : Meanings → ℕ → List Name → Tree → Body
expanded_at m d params t =
    body_of (expanded_body (first_of m.names.now) m.kinds.now (kind_class (slice_get m.kinds.now d))
    (tree_says (first_of m.names.now) t (body_place (slice_get m.kinds.now d)) params))
