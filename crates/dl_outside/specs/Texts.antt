-- Texts under names.
use Rattle.std.specs.Prelude.{ℕ, Bool, List, Option, ◌≡◌, ◌≢◌, Some}
use Rattle.csp_base.specs.Standard.{find, option_map, bytes_eq}
use Rattle.dl_outside.specs.declared.texts.NamedText.{NamedText}

-- A text is held under this name.
abbrev pub has_name : List ℕ → NamedText → Bool
has_name name held = bytes_eq held.name name

-- The text of a name, if one is held: the first one of that name.
abbrev pub text_of : List NamedText → List ℕ → Option (List ℕ)
text_of texts name = option_map (λ held. held.text) (find (has_name name) texts)

-- A load gave the text that is held under the name, and left the texts as they were.
abbrev pub IsTextOf : List NamedText → List NamedText → List ℕ → List ℕ → Type 0
IsTextOf texts after name text = (text_of texts name ≡ Some text) × (after ≡ texts)

-- The new texts hold this text under the name, and under every other name what the old ones hold.
pub record PutsText (old new : List NamedText) (name text : List ℕ) : Type 0 where
  pub named : text_of new name ≡ Some text
  pub others : (other : List ℕ) → other ≢ name → text_of new other ≡ text_of old other
