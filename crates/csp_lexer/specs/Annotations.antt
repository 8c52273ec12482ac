-- Annotations: line comments that begin with `--@` and whose first word is `roles` or `resource`.
use Rattle.std.specs.Prelude.{ℕ, Bool, true, not, ◌||◌, nat_eq, nat_lt, if◌then◌else◌, List, [], ◌∷◌, length, drop, codes}
use Rattle.csp_base.specs.Standard.{filter, slice_split, starts_with, bytes_eq}
use Rattle.csp_text.specs.declared.token.ResourceNames.{ResourceNames}
use Rattle.csp_text.specs.declared.token.RolesNames.{RolesNames}
use Rattle.csp_text.specs.declared.token.Token.{Token}
use Rattle.csp_text.specs.declared.token.Token.TheVariants as token
use Rattle.csp_lexer.specs.Words.{IsName}

-- what divides the words of an annotation: a space, a tab or a carriage return
abbrev pub is_space : ℕ → Bool
is_space b = nat_eq b 32 || nat_eq b 9 || nat_eq b 13

-- the words of a line that begins with `@`, which are its parts between spaces that are not empty; any other line has none
abbrev pub annotation_words : List ℕ → List (List ℕ)
annotation_words line = if starts_with nat_eq line (codes "@") then filter (λ word. nat_lt 0 (length word)) (slice_split is_space (drop 1 line)) else []

-- the words of an annotation: `roles` and five names, or `resource` and three names
pub data AnnotationText : List (List ℕ) → Token → Type 0 where
  roles : (n : RolesNames) → IsName n.process → IsName n.creq → IsName n.cack → IsName n.sreq → IsName n.sack →
      AnnotationText (codes "roles" ∷ n.process ∷ n.creq ∷ n.cack ∷ n.sreq ∷ n.sack ∷ []) (token.Roles n)
  resource : (n : ResourceNames) → IsName n.process → IsName n.acquire → IsName n.release → AnnotationText (codes "resource" ∷ n.process ∷ n.acquire ∷ n.release ∷ []) (token.Resource n)

-- a line comment with these words is no annotation
abbrev pub is_plain : List (List ℕ) → Bool
is_plain [] = true
is_plain (word ∷ names) = not (bytes_eq word (codes "roles") || bytes_eq word (codes "resource"))
