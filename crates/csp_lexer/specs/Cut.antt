-- The tokens of a text. It is cut from the left into blanks, comments, assertions and tokens, and a token is the longest lexeme that fits.
use Rattle.std.specs.Prelude.{◌≡◌, ◌≤◌, ℕ, Bool, true, false, ◌||◌, nat_eq, List, [], ◌∷◌, ◌++◌, length, take, drop, codes, Option, Some}
use Rattle.csp_text.specs.declared.token.Token.{Token}
use Rattle.csp_text.specs.declared.token.Token.TheVariants.{Word}
use Rattle.csp_text.specs.declared.token.Word.TheVariants.{Assert}
use Rattle.csp_lexer.specs.Annotations.{AnnotationText, annotation_words, is_plain, is_space}
use Rattle.csp_lexer.specs.Assertions.{Asserts, rest_len}
use Rattle.csp_lexer.specs.Comments.{after_comments, line_len}
use Rattle.csp_lexer.specs.Lexemes.{Lexeme}

-- a space, a tab, a carriage return or a line feed
abbrev pub is_blank : ℕ → Bool
is_blank b = is_space b || nat_eq b 10

-- the text begins with this part, which is the token, and with no longer lexeme; the rest follows
pub record Begins (on_line : Bool) (part rest : List ℕ) (t : Token) : Type 0 where
  pub lexeme : Lexeme on_line part (Some t)
  pub longest : (other after : List ℕ) (found : Option Token) → part ++ rest ≡ other ++ after → Lexeme on_line other found → length other ≤ length part

-- the tokens of the rest of an assertion's line, which is spaces and tokens
pub data LineCut : List ℕ → List Token → Type 0 where
  end : LineCut [] []
  space : {b : ℕ} {text : List ℕ} {ts : List Token} → is_space b ≡ true → LineCut text ts → LineCut (b ∷ text) ts
  token : {part rest : List ℕ} {t : Token} {ts : List Token} → Begins true part rest t → LineCut rest ts → LineCut (part ++ rest) (t ∷ ts)

-- the tokens of a text
pub data Cut : List ℕ → List Token → Type 0 where
  end : Cut [] []
  blank : {b : ℕ} {text : List ℕ} {ts : List Token} → is_blank b ≡ true → Cut text ts → Cut (b ∷ text) ts
  comment : {text rest : List ℕ} {ts : List Token} → after_comments 1 text ≡ Some rest → Cut rest ts → Cut (codes "{-" ++ text) ts
  line-comment : {text : List ℕ} {ts : List Token} → is_plain (annotation_words (take (line_len text) text)) ≡ true → Cut (drop (line_len text) text) ts → Cut (codes "--" ++ text) ts
  annotation : {text : List ℕ} {t : Token} {ts : List Token} →
      AnnotationText (annotation_words (take (line_len text) text)) t → Cut (drop (line_len text) text) ts → Cut (codes "--" ++ text) (t ∷ ts)
  assertion : {text : List ℕ} {line ts : List Token} → Begins false (codes "assert") text (Word Assert) →
      LineCut (take (rest_len text) text) line → Asserts line → Cut (drop (rest_len text) text) ts → Cut (codes "assert" ++ text) (Word Assert ∷ line ++ ts)
  skipped : {text : List ℕ} {ts : List Token} → Begins false (codes "assert") text (Word Assert) →
      ((line : List Token) → LineCut (take (rest_len text) text) line → Asserts line → ⊥) → Cut (drop (rest_len text) text) ts → Cut (codes "assert" ++ text) ts
  token : {part rest : List ℕ} {t : Token} {ts : List Token} → Begins false part rest t → (t ≡ Word Assert → ⊥) → Cut rest ts → Cut (part ++ rest) (t ∷ ts)
